use Rattle.std.proofs.Common.{sym, ◌∙◌, List, ℕ}
use Rattle.std.specs.Str.{bytes_eq}
use Rattle.qo_model.specs.RowNames.{property_name}
use Rattle.qo_object.specs.declared.slots.Slot.{Slot}
use Rattle.qo_object.specs.declared.slots.SlotView.{SlotView}
use Rattle.qo_heap.proofs.PlacesLemmas.{placed-at}
use Rattle.qo_values.proofs.ListLemmas.{position-find, position-none}
use Rattle.qo_heap.proofs.heap.Heap.property.Goals as goal

pub returns-in-Some-clause-slot : goal.returns-in-Some-clause-slot
returns-in-Some-clause-slot g c =
    rw c.look-object.ensures.object
    (c.slot_at.ensures.slot
    ∙ position-find (λ (s : List ℕ × Slot). bytes_eq (property_name c.args.name) s.0) c.look-object.result.now.slots c.in-Some.at (sym c.find_row.ensures ∙ c.in-Some.is))

pub returns-in-Some-clause-at : goal.returns-in-Some-clause-at
returns-in-Some-clause-at g c =
    rw c.look-object.ensures.object
    (placed-at _ (λ (v : SlotView). v.at) (λ (s : List ℕ × Slot). bytes_eq (property_name c.args.name) s.0) c.look-object.result.now.slots c.in-Some.at c.slot_at.result
    (sym c.find_row.ensures ∙ c.in-Some.is) c.slot_at.ensures.slot c.slot_at.ensures.at)

pub returns-in-None-clause-slot : goal.returns-in-None-clause-slot
returns-in-None-clause-slot g c =
    rw c.look-object.ensures.object
    (sym (position-none (λ (s : List ℕ × Slot). bytes_eq (property_name c.args.name) s.0) c.look-object.result.now.slots (sym c.find_row.ensures ∙ c.in-None.is)))
