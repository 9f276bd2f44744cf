-- The tape and the mirror are boxed as they were made, and neither is closed.
use Rattle.std.proofs.Common.{◌≡◌, refl, ap, sym, subst, ◌∙◌, Bool, false, inl, inr}
use Rattle.qo_listen.specs.Ears.{AllOpen, ear, ears}
use Rattle.qo_listen.specs.contracts.listeners.BoxDynListenerListener.TheImpl.{ghosts}
use Rattle.qo_listen.specs.declared.mirror.Mirror.{Mirror}
use Rattle.qo_listen.specs.declared.tape.Tape.{Tape}
use Rattle.tests_sessions.proofs.AddedLemmas.{added-open}
use Rattle.tests_sessions.proofs.watches.puts.Goals as goal
use Rattle.tests_sessions.proofs.watches.puts.OwnLists as own
use denote.Param.Object.{read_made}

pub add-tape-requires : goal.add-tape-requires
add-tape-requires c =
    read_made own.own-1 (own.own-1.entry (inl tt)) (inl tt) refl Bool (λ j x. j.1.closed x) c.into_dyn_box.result.vtable c.into_dyn_box.result.value
    c.in_ok-new.field-0.value c.into_dyn_box.ensures.1
    ∙ ap (λ (t : Tape). t.closed) (c.in_ok-new.ensures {u = tt}).ok ∙ c.new-6.ensures.closed

pub add-mirror-requires : goal.add-mirror-requires
add-mirror-requires c =
    read_made own.own-1 (own.own-1.entry (inr (inl tt))) (inr (inl tt)) refl Bool (λ j x. j.1.closed x) c.into_dyn_box-in_ok-new-2.result.vtable
    c.into_dyn_box-in_ok-new-2.result.value c.in_ok-new-2.field-0.value c.into_dyn_box-in_ok-new-2.ensures.1
    ∙ ap (λ (m : Mirror). m.closed) (c.in_ok-new-2.ensures {u = tt}).ok ∙ c.new-8.ensures.closed

pub compose-status-requires : goal.compose-status-requires
compose-status-requires c =
    let is = ghosts (own.own-1, own.lawful-own-1) in
    let nobody : AllOpen (ears is c.new-listeners.result.all.items) = subst AllOpen (sym c.new-listeners.ensures) tt in
    let one : AllOpen (ears is c.add-tape.new.self.all.items) =
    added-open c.add-tape.result (ears is c.new-listeners.result.all.items) (ears is c.add-tape.new.self.all.items) (ear is c.into_dyn_box.result)
    c.add-tape.ensures.added c.add-tape.ensures.left
    (read_made own.own-1 (own.own-1.entry (inl tt)) (inl tt) refl Bool (λ j x. j.1.closed x) c.into_dyn_box.result.vtable c.into_dyn_box.result.value
    c.in_ok-new.field-0.value c.into_dyn_box.ensures.1
    ∙ ap (λ (t : Tape). t.closed) (c.in_ok-new.ensures {u = tt}).ok ∙ c.new-6.ensures.closed) nobody in
    let both : AllOpen (ears is c.add-mirror.new.self.all.items) =
    added-open c.add-mirror.result (ears is c.add-tape.new.self.all.items) (ears is c.add-mirror.new.self.all.items) (ear is c.into_dyn_box-in_ok-new-2.result)
    c.add-mirror.ensures.added c.add-mirror.ensures.left
    (read_made own.own-1 (own.own-1.entry (inr (inl tt))) (inr (inl tt)) refl Bool (λ j x. j.1.closed x) c.into_dyn_box-in_ok-new-2.result.vtable
    c.into_dyn_box-in_ok-new-2.result.value c.in_ok-new-2.field-0.value c.into_dyn_box-in_ok-new-2.ensures.1
    ∙ ap (λ (m : Mirror). m.closed) (c.in_ok-new-2.ensures {u = tt}).ok ∙ c.new-8.ensures.closed) one in
    record { listening = both }
