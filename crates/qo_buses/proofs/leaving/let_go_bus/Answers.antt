-- The slot that is found is let go, or there is none.
use Rattle.std.proofs.Common.{sym}
use Rattle.qo_model.specs.Unplug.{is_bus_child}
use Rattle.qo_buses.proofs.LeavingLemmas.{goes-go_none, goes-go_where}
use Rattle.qo_buses.proofs.leaving.let_go_bus.Goals as goal

pub returns-in-Some-clause-goes : goal.returns-in-Some-clause-goes
returns-in-Some-clause-goes g c =
    goes-go_where (is_bus_child c.args.bus) c.args.heap.now c.let_go.new.heap c.args.dev.birth c.in-Some.at (sym c.in-Some.ensures) c.let_go.ensures.goes

pub returns-in_default-clause-goes : goal.returns-in_default-clause-goes
returns-in_default-clause-goes g c = goes-go_none (is_bus_child c.args.bus) c.args.heap.now c.args.dev.birth (sym c.in_default.ensures)
