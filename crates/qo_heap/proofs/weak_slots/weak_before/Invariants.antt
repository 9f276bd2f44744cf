use Rattle.std.proofs.Common.{◌≡◌}
use Rattle.qo_heap.specs.WeakLinks.{weak_before}
use Rattle.qo_heap.proofs.weak_slots.weak_before.Given as goal

abbrev pub invariant-loop-place : goal.invariant-loop-place
invariant-loop-place l = l.before ≡ weak_before l.place l.object.slots
