use Rattle.std.proofs.Common.{sym, ◌∙◌, List, ℕ}
use Rattle.std.specs.Str.{bytes_eq}
use Rattle.qo_model.specs.Devices.{kid_name}
use Rattle.qo_object.specs.declared.slots.Slot.{Slot}
use Rattle.qo_values.proofs.ListLemmas.{position-find, position-none}
use Rattle.qo_heap.proofs.heap.Heap.kid.Goals as goal

pub returns-in-Some-clause-slot : goal.returns-in-Some-clause-slot
returns-in-Some-clause-slot g c =
    rw c.look-object.ensures.object
    (c.slot_at.ensures.slot
    ∙ position-find (λ (s : List ℕ × Slot). bytes_eq (kid_name c.args.slot) s.0) c.look-object.result.now.slots c.in-Some.at (sym c.find_kid.ensures ∙ c.in-Some.is))

pub returns-in-None-clause-slot : goal.returns-in-None-clause-slot
returns-in-None-clause-slot g c =
    rw c.look-object.ensures.object
    (sym (position-none (λ (s : List ℕ × Slot). bytes_eq (kid_name c.args.slot) s.0) c.look-object.result.now.slots (sym c.find_kid.ensures ∙ c.in-None.is)))
