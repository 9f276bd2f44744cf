use Rattle.qo_model.specs.RowNames.{property_name}
use Rattle.qo_plug.proofs.PlacementSteps.{stays-set}
use Rattle.qo_plug.proofs.standing.put_value.Goals as goal

pub returns-clause-stays : goal.returns-clause-stays
returns-clause-stays g c =
    stays-set c.reveal_board.ensures.0 c.args.heap.now c.set_named.new.heap c.args.device.birth (property_name c.args.name) c.args.val c.reveal_board.ensures.1
    (c.set_named.ensures.shown c.reveal_board.ensures.0 c.reveal_board.ensures.1) c.set_named.ensures.goes c.set_named.ensures.names c.set_named.ensures.pins
