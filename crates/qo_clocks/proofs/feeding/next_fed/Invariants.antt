use Rattle.std.proofs.Common.{◌-◌}
use Rattle.qo_clocks.proofs.FeedingLemmas.{Passes}
use Rattle.qo_clocks.proofs.feeding.next_fed.Given as goal

abbrev pub invariant-loop-n : goal.invariant-loop-n
invariant-loop-n g l = Passes l.heap l.c.birth l.above l.passed

abbrev pub decreases-loop-n : goal.decreases-loop-n
decreases-loop-n g l = l.heap.born - l.passed
