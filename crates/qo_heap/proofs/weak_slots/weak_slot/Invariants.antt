use Rattle.std.proofs.Common.{◌≡◌, ◌≤◌}
use Rattle.qo_heap.specs.WeakLinks.{weak_before}
use Rattle.qo_heap.proofs.weak_slots.weak_slot.Given as goal

abbrev pub invariant-loop-at : goal.invariant-loop-at
invariant-loop-at l = (l.before ≡ weak_before l.at l.object.slots) × (l.before ≤ l.nth)
