-- Without memory nothing is done.
use Rattle.std.proofs.Common.{refl}
use Rattle.qo_plug.proofs.PlacementSteps.{stays-same}
use Rattle.qo_plug.proofs.standing.put_address.Goals as goal

pub returns-in-None-clause-stays : goal.returns-in-None-clause-stays
returns-in-None-clause-stays g c = stays-same c.args.heap.now c.args.heap.now refl
