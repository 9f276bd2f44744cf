use Rattle.std.proofs.Common.{◌≡◌, subst}
use Rattle.qo_listen.proofs.listeners.BoxDynListenerListener.close.Goals as goal

-- src/listeners.rt:69:5
pub returns-clause-form : goal.returns-clause-form
returns-clause-form g c =
    subst (λ p. (g.dyn-1.0.entry c.deref_box_mut-1.result.now.0).1.form c.close.new.self ≡ (g.dyn-1.0.entry p.0).1.form p.1) c.deref_box_mut-1.ensures.value.1 c.close.ensures.1
