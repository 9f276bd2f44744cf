use Rattle.std.proofs.Common.{codes}
use Rattle.qo_plug.proofs.PlacementSteps.{stays-linked}
use Rattle.qo_plug.proofs.standing.put_bus.Goals as goal

pub returns-clause-stays : goal.returns-clause-stays
returns-clause-stays g c =
    stays-linked c.reveal_board.ensures.0 c.args.heap.now c.point_bus.new.heap c.args.device.birth (codes "parent_bus") c.args.bus.birth
    c.reveal_board.ensures.1
    (c.point_bus.ensures.shown c.reveal_board.ensures.0 c.reveal_board.ensures.1) c.point_bus.ensures.goes c.point_bus.ensures.names c.point_bus.ensures.pins
