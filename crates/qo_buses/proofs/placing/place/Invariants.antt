-- Nothing fits below the address.
use Rattle.std.proofs.Common.{◌-◌}
use Rattle.qo_buses.proofs.PlacingLemmas.{Reached}
use Rattle.qo_buses.proofs.placing.place.Given as goal

abbrev pub invariant-loop-at : goal.invariant-loop-at
invariant-loop-at l = Reached l.ranges l.size l.at

abbrev pub decreases-loop-at : goal.decreases-loop-at
decreases-loop-at l = 73014444032 - l.at
