use Rattle.std.proofs.Common.{length}
use Rattle.qo_heap.proofs.tests.spend_rest.Given as goal

abbrev pub decreases-loop-token : goal.decreases-loop-token
decreases-loop-token l = length l.rest
