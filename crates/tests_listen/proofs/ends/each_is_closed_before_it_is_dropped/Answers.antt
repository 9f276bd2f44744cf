-- The boxed one is the one that was made, which is not closed.
use Rattle.std.proofs.Common.{◌∙◌, refl, ap, Bool}
use Rattle.tests_listen.specs.declared.ends.Witness.{Witness}
use Rattle.tests_listen.proofs.ends.each_is_closed_before_it_is_dropped.Goals as goal
use Rattle.tests_listen.proofs.ends.each_is_closed_before_it_is_dropped.OwnLists as own
use denote.Param.Object.{read_made}
use mathlib.Core.Logic.{inl}

pub add-requires : goal.add-requires
add-requires g c =
    let b = c.into_dyn_box.ensures in
    read_made (own.own-1 g.bound-1-dict) ((own.own-1 g.bound-1-dict).entry (inl tt)) (inl tt) refl Bool (λ j x. j.1.closed x)
    c.into_dyn_box.result.vtable c.into_dyn_box.result.value c.in_ok-new.field-0.value b.1
    ∙ ap (λ (w : Witness _). w.closed) (c.in_ok-new.ensures {u = tt}).ok
