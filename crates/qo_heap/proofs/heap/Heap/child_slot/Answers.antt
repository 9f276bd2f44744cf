use Rattle.std.proofs.Common.{◌≡◌, sym, ◌∙◌, List, ℕ, Some, position}
use Rattle.qo_object.specs.Slots.{names_child}
use Rattle.qo_object.specs.declared.slots.Slot.{Slot}
use Rattle.qo_object.specs.declared.slots.SlotView.{SlotView}
use Rattle.qo_heap.proofs.ChildPlaces.{only-child}
use Rattle.qo_heap.proofs.PlacesLemmas.{placed-at}
use Rattle.qo_values.proofs.ListLemmas.{position-find, position-none}
use Rattle.qo_heap.proofs.heap.Heap.child_slot.Goals as goal

first : (g : _) (c : goal.After-slot_at g) → position (λ (s : List ℕ × Slot). names_child c.args.child s.1) c.look-object.result.now.slots ≡ Some c.in-Some.at
first g c =
    only-child c.args.child c.args.o.birth c.look-object.result.now c.args.self.now.rows c.in-Some.at (c.reveal_once.ensures c.args.child) c.look-object.ensures.object
    c.in-Some.ensures

pub returns-in-Some-clause-slot : goal.returns-in-Some-clause-slot
returns-in-Some-clause-slot g c =
    rw c.look-object.ensures.object
    (c.slot_at.ensures.slot ∙ position-find (λ (s : List ℕ × Slot). names_child c.args.child s.1) c.look-object.result.now.slots c.in-Some.at (first g c))

pub returns-in-Some-clause-at : goal.returns-in-Some-clause-at
returns-in-Some-clause-at g c =
    rw c.look-object.ensures.object
    (placed-at _ (λ (v : SlotView). v.at) (λ (s : List ℕ × Slot). names_child c.args.child s.1) c.look-object.result.now.slots c.in-Some.at c.slot_at.result
    (first g c) c.slot_at.ensures.slot c.slot_at.ensures.at)

pub returns-in-Some-child_place-clause-slot : goal.returns-in-Some-child_place-clause-slot
returns-in-Some-child_place-clause-slot g c =
    rw c.look-object.ensures.object
    (c.slot_at-in-Some-child_place.ensures.slot
    ∙ position-find (λ (s : List ℕ × Slot). names_child c.args.child s.1) c.look-object.result.now.slots c.in-Some-child_place.at
    (sym c.child_place.ensures ∙ c.in-Some-child_place.is))

pub returns-in-Some-child_place-clause-at : goal.returns-in-Some-child_place-clause-at
returns-in-Some-child_place-clause-at g c =
    rw c.look-object.ensures.object
    (placed-at _ (λ (v : SlotView). v.at) (λ (s : List ℕ × Slot). names_child c.args.child s.1) c.look-object.result.now.slots c.in-Some-child_place.at
    c.slot_at-in-Some-child_place.result (sym c.child_place.ensures ∙ c.in-Some-child_place.is) c.slot_at-in-Some-child_place.ensures.slot
    c.slot_at-in-Some-child_place.ensures.at)

pub returns-in-None-clause-slot : goal.returns-in-None-clause-slot
returns-in-None-clause-slot g c =
    rw c.look-object.ensures.object
    (sym (position-none (λ (s : List ℕ × Slot). names_child c.args.child s.1) c.look-object.result.now.slots (sym c.child_place.ensures ∙ c.in-None.is)))
