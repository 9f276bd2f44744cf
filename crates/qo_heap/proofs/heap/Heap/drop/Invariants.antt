use Rattle.std.proofs.Common.{length}
use Rattle.qo_heap.proofs.heap.Heap.drop.Given as goal

abbrev pub decreases-loop-entry : goal.decreases-loop-entry
decreases-loop-entry l = length l.rest
