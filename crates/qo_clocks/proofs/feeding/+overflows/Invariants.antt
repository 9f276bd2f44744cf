use Rattle.std.proofs.Common.{◌-◌}
use Rattle.qo_clocks.proofs.OverflowLemmas.{Left}
use Rattle.qo_clocks.proofs.feeding.+overflows.Given as goal

abbrev pub decreases-overflows : goal.decreases-overflows
decreases-overflows g l = l.levels

abbrev pub invariant-loop-n : goal.invariant-loop-n
invariant-loop-n g l = Left l.heap (l.levels - 1) l.c.birth l.period l.above

abbrev pub decreases-loop-n : goal.decreases-loop-n
decreases-loop-n g l = l.heap.born - l.above
