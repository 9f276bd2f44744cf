use Rattle.std.proofs.Common.{◌+◌, ◌-◌}
use Rattle.qo_heap.specs.WeakEnds.{weak_count}
use Rattle.qo_heap.proofs.InsideObjects.{objects_inside}
use Rattle.qo_heap.proofs.WeakOwners.{WalkIn}
use Rattle.qo_heap.proofs.heap.Heap.weak_owner.Given as goal

abbrev pub invariant-loop-next : goal.invariant-loop-next
invariant-loop-next g l = WalkIn l.self-inside l.fn.o l.above l.fn.steps l.next l.owner l.steps

abbrev pub decreases-loop-next : goal.decreases-loop-next
decreases-loop-next g l = (l.fn.steps + (1 + weak_count l.fn.o.birth (objects_inside l.self-inside).rows)) - l.steps
