-- The tape and the mirror are boxed as they were made, and neither is closed.
use Rattle.std.proofs.Common.{◌≡◌, refl, ap, sym, subst, ◌∙◌, Bool, false, inl, inr}
use Rattle.qo_listen.specs.Ears.{AllOpen, ear, ears}
use Rattle.qo_listen.specs.contracts.listeners.BoxDynListenerListener.TheImpl.{ghosts}
use Rattle.qo_listen.specs.declared.mirror.Mirror.{Mirror}
use Rattle.qo_listen.specs.declared.tape.Tape.{Tape}
use Rattle.compose_program.proofs.AddedLemmas.{added-open}
use Rattle.compose_program.proofs.main.Goals as goal
use Rattle.compose_program.proofs.main.Goals.{in-Ok-new-2+in-Err-1, in-Ok-new-2+in-Ok-1, in_default-new+in-Err-1, in_default-new+in-Ok-1, in-Ok-new-3+in-Err-1, in-Ok-new-3+in-Ok-1, in_default-new-2+in-Err-1, in_default-new-2+in-Ok-1}
use Rattle.compose_program.proofs.main.OwnLists as own
use denote.Param.Object.{read_made}

pub add-added-requires : goal.add-added-requires
add-added-requires c =
    let b = c.into_dyn_box-tape.ensures in
    read_made own.own-1 (own.own-1.entry (inl tt)) (inl tt) refl Bool (λ j x. j.1.closed x) c.into_dyn_box-tape.result.vtable c.into_dyn_box-tape.result.value
    c.in-Ok-new-2.tape.value b.1
    ∙ ap (λ (t : Tape). t.closed) (c.in-Ok-new-2.ensures {u = tt}).ok ∙ c.new-2.ensures.closed

pub add-added-requires-in-Ok-new-3 : goal.add-added-requires-in-Ok-new-3
add-added-requires-in-Ok-new-3 c =
    let b = c.into_dyn_box-mirror.ensures in
    read_made own.own-1 (own.own-1.entry (inr (inl tt))) (inr (inl tt)) refl Bool (λ j x. j.1.closed x) c.into_dyn_box-mirror.result.vtable
    c.into_dyn_box-mirror.result.value c.in-Ok-new-3.mirror.value b.1
    ∙ ap (λ (m : Mirror). m.closed) (c.in-Ok-new-3.ensures {u = tt}).ok ∙ c.new-4.ensures.closed

pub called-requires : goal.called-requires
called-requires c =
    let is = ghosts (own.own-1, own.lawful-own-1) in
    let nobody : AllOpen (ears is c.new-listeners.result.all.items) = subst AllOpen (sym c.new-listeners.ensures) tt in
    let one : AllOpen (ears is c.match-new-2.listeners.all.items) =
    elim c.match-new-2.branch [
      | in-Ok-new-2+in-Err-1 w ↦ rw w.listeners-is
          (added-open w.add-added.result (ears is c.new-listeners.result.all.items) (ears is w.add-added.new.self.all.items) (ear is w.into_dyn_box-tape.result)
          w.add-added.ensures.added w.add-added.ensures.left
          (read_made own.own-1 (own.own-1.entry (inl tt)) (inl tt) refl Bool (λ j x. j.1.closed x) w.into_dyn_box-tape.result.vtable
          w.into_dyn_box-tape.result.value w.in-Ok-new-2.tape.value w.into_dyn_box-tape.ensures.1
          ∙ ap (λ (t : Tape). t.closed) (w.in-Ok-new-2.ensures {u = tt}).ok ∙ c.new-2.ensures.closed) nobody)
      | in-Ok-new-2+in-Ok-1 w ↦ rw w.listeners-is
          (added-open w.add-added.result (ears is c.new-listeners.result.all.items) (ears is w.add-added.new.self.all.items) (ear is w.into_dyn_box-tape.result)
          w.add-added.ensures.added w.add-added.ensures.left
          (read_made own.own-1 (own.own-1.entry (inl tt)) (inl tt) refl Bool (λ j x. j.1.closed x) w.into_dyn_box-tape.result.vtable
          w.into_dyn_box-tape.result.value w.in-Ok-new-2.tape.value w.into_dyn_box-tape.ensures.1
          ∙ ap (λ (t : Tape). t.closed) (w.in-Ok-new-2.ensures {u = tt}).ok ∙ c.new-2.ensures.closed) nobody)
      | in_default-new+in-Err-1 w ↦ rw w.listeners-is nobody
      | in_default-new+in-Ok-1 w ↦ rw w.listeners-is nobody
    ] in
    let both : AllOpen (ears is c.match-new-3.listeners.all.items) =
    elim c.match-new-3.branch [
      | in-Ok-new-3+in-Err-1 w ↦ rw w.listeners-is
          (added-open w.add-added-in-Ok-new-3.result (ears is c.match-new-2.listeners.all.items) (ears is w.add-added-in-Ok-new-3.new.self.all.items)
          (ear is w.into_dyn_box-mirror.result) w.add-added-in-Ok-new-3.ensures.added w.add-added-in-Ok-new-3.ensures.left
          (read_made own.own-1 (own.own-1.entry (inr (inl tt))) (inr (inl tt)) refl Bool (λ j x. j.1.closed x) w.into_dyn_box-mirror.result.vtable
          w.into_dyn_box-mirror.result.value w.in-Ok-new-3.mirror.value w.into_dyn_box-mirror.ensures.1
          ∙ ap (λ (m : Mirror). m.closed) (w.in-Ok-new-3.ensures {u = tt}).ok ∙ c.new-4.ensures.closed) one)
      | in-Ok-new-3+in-Ok-1 w ↦ rw w.listeners-is
          (added-open w.add-added-in-Ok-new-3.result (ears is c.match-new-2.listeners.all.items) (ears is w.add-added-in-Ok-new-3.new.self.all.items)
          (ear is w.into_dyn_box-mirror.result) w.add-added-in-Ok-new-3.ensures.added w.add-added-in-Ok-new-3.ensures.left
          (read_made own.own-1 (own.own-1.entry (inr (inl tt))) (inr (inl tt)) refl Bool (λ j x. j.1.closed x) w.into_dyn_box-mirror.result.vtable
          w.into_dyn_box-mirror.result.value w.in-Ok-new-3.mirror.value w.into_dyn_box-mirror.ensures.1
          ∙ ap (λ (m : Mirror). m.closed) (w.in-Ok-new-3.ensures {u = tt}).ok ∙ c.new-4.ensures.closed) one)
      | in_default-new-2+in-Err-1 w ↦ rw w.listeners-is one
      | in_default-new-2+in-Ok-1 w ↦ rw w.listeners-is one
    ] in
    record { listening = both }
