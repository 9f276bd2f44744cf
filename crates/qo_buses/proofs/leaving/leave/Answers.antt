-- The link of the bus goes first, and then the link to it.
use Rattle.qo_model.specs.Unplug.{left_bus}
use Rattle.qo_life.proofs.TreeLemmas.{goes-names}
use Rattle.qo_buses.proofs.LeavingLemmas.{goes-left, goes-stayed}
use Rattle.qo_buses.proofs.leaving.leave.Goals as goal

pub returns-in-Some-clause-goes : goal.returns-in-Some-clause-goes
returns-in-Some-clause-goes g c =
    goes-left c.args.heap.now c.take_kid.new.heap c.let_go_named.new.heap c.reveal_board.ensures.0 c.reveal_board.ensures.1 c.args.dev.birth c.in-Some.bus.birth
    (λ b s. c.in-Some.ensures.bus b s) c.take_kid.ensures c.let_go_named.ensures

pub returns-in-Some-clause-names : goal.returns-in-Some-clause-names
returns-in-Some-clause-names g c =
    goes-names (left_bus c.args.dev.birth) c.args.heap.now c.let_go_named.new.heap
    (goes-left c.args.heap.now c.take_kid.new.heap c.let_go_named.new.heap c.reveal_board.ensures.0 c.reveal_board.ensures.1 c.args.dev.birth
    c.in-Some.bus.birth
    (λ b s. c.in-Some.ensures.bus b s) c.take_kid.ensures c.let_go_named.ensures)

pub returns-in_default-clause-goes : goal.returns-in_default-clause-goes
returns-in_default-clause-goes g c =
    goes-stayed c.args.heap.now c.reveal_board.ensures.0 c.reveal_board.ensures.1 c.args.dev.birth (λ b s. c.in_default.ensures.bus b s)
