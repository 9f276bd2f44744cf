-- The own slots from the place on are filled.
use Rattle.qo_plug.proofs.PlacementFills.{Settled}
use Rattle.qo_plug.proofs.standing.settle_own.Given as goal

abbrev pub invariant-loop-at : goal.invariant-loop-at
invariant-loop-at g l = Settled l.initial.plan.items l.o l.at l.plan.items l.initial.heap l.heap

abbrev pub decreases-loop-at : goal.decreases-loop-at
decreases-loop-at g l = l.at
