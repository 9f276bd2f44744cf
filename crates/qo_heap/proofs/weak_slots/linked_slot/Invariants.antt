use Rattle.std.proofs.Common.{◌≡◌, None, Option, take}
use Rattle.std.specs.List.{AllByRecursion}
use Rattle.qo_slots.specs.declared.keys.Key.{Key}
use Rattle.qo_heap.specs.WeakLinks.{weak_names}
use Rattle.qo_heap.proofs.weak_slots.linked_slot.Given as goal

abbrev pub invariant-loop-at : goal.invariant-loop-at
invariant-loop-at l = AllByRecursion (λ (t : Option Key). t ≡ None) (weak_names (take l.at l.object.slots))
