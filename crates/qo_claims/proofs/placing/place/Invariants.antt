use Rattle.std.proofs.Common.{drop}
use Rattle.qo_claims.proofs.Walks.{Searched}
use Rattle.qo_claims.proofs.placing.place.Given as goal

abbrev pub invariant-loop-range : goal.invariant-loop-range
invariant-loop-range l = Searched l.ranges (drop l.range-index l.ranges) l.size l.align l.from
