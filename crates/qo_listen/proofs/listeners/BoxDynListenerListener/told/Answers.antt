use mathlib.Core.List.{mem-append_right}
use Rattle.std.proofs.Common.{◌≡◌, ◌∷◌, [], ◌++◌, false, OnOk, OnErr, refl, sym, subst}
use Rattle.qo_listen.proofs.listeners.BoxDynListenerListener.told.Goals as goal

-- src/listeners.rt:62:9
pub told-requires : goal.told-requires
told-requires g c κs =
    let stays : (g.dyn-1.0.entry c.deref_box_mut-1.result.now.0).1.closed c.deref_box_mut-1.result.now.1 ≡ false =
    subst (λ p. (g.dyn-1.0.entry p.0).1.closed p.1 ≡ false) (sym c.deref_box_mut-1.ensures.value.1) c.requires in
    (refl, λ incl. (tt, ((λ a m. incl a (mem-append_right (κs.0) m)), stays)))

-- src/listeners.rt:61:5
pub returns-clause-heard : goal.returns-clause-heard
returns-clause-heard g c =
    subst (λ p. OnOk c.told.result ((g.dyn-1.0.entry c.deref_box_mut-1.result.now.0).1.heard c.told.new.self ≡ (g.dyn-1.0.entry p.0).1.heard p.1 ++ c.args.note.now ∷ [])) c.deref_box_mut-1.ensures.value.1 c.told.ensures.0

-- src/listeners.rt:61:5
pub returns-clause-left : goal.returns-clause-left
returns-clause-left g c =
    subst (λ p. OnErr c.told.result ((g.dyn-1.0.entry c.deref_box_mut-1.result.now.0).1.heard c.told.new.self ≡ (g.dyn-1.0.entry p.0).1.heard p.1)) c.deref_box_mut-1.ensures.value.1 c.told.ensures.1.0

-- src/listeners.rt:61:5
pub returns-clause-text : goal.returns-clause-text
returns-clause-text g c =
    subst (λ p. OnErr c.told.result ((g.dyn-1.0.entry c.deref_box_mut-1.result.now.0).1.text c.told.new.self ≡ (g.dyn-1.0.entry p.0).1.text p.1)) c.deref_box_mut-1.ensures.value.1 c.told.ensures.1.1.0

-- src/listeners.rt:61:5
pub returns-clause-form : goal.returns-clause-form
returns-clause-form g c =
    subst (λ p. (g.dyn-1.0.entry c.deref_box_mut-1.result.now.0).1.form c.told.new.self ≡ (g.dyn-1.0.entry p.0).1.form p.1) c.deref_box_mut-1.ensures.value.1 c.told.ensures.1.1.1.0

-- src/listeners.rt:61:5
pub returns-clause-closed : goal.returns-clause-closed
returns-clause-closed g c =
    subst (λ p. (g.dyn-1.0.entry c.deref_box_mut-1.result.now.0).1.closed c.told.new.self ≡ (g.dyn-1.0.entry p.0).1.closed p.1) c.deref_box_mut-1.ensures.value.1 c.told.ensures.1.1.1.1
