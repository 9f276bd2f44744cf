use Rattle.std.proofs.Common.{◌-◌}
use Rattle.qo_clocks.proofs.SpreadLemmas.{Spreads}
use Rattle.qo_clocks.proofs.spread.+spread.Given as goal

abbrev pub decreases-spread : goal.decreases-spread
decreases-spread g l = l.levels

abbrev pub invariant-loop-n : goal.invariant-loop-n
invariant-loop-n g l = Spreads l.fn.heap (l.levels - 1) l.c.birth l.before l.after l.above l.heap

abbrev pub decreases-loop-n : goal.decreases-loop-n
decreases-loop-n g l = l.fn.heap.born - l.above
