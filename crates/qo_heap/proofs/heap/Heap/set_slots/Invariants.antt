use Rattle.std.proofs.Common.{◌≡◌, List, take}
use Rattle.qo_object.specs.Content.{with_all_slots}
use Rattle.qo_object.specs.Slots.{Named}
use Rattle.qo_heap.specs.Furnishing.{IsSplit, refilled}
use Rattle.qo_heap.specs.Objects.{with_edit}
use Rattle.qo_heap.proofs.heap.Heap.set_slots.Given as goal

abbrev pub invariant-loop-at : goal.invariant-loop-at
invariant-loop-at g l =
    (s : List Named) × (IsSplit l.targets.items s
    × ((refilled l.targets.items s ≡ l.fn.slots)
    × (l.self ≡ with_edit l.o.birth (with_all_slots (refilled (take l.at l.targets.items) s)) l.fn.self)))
