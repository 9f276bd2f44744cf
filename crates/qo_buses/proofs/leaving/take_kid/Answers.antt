-- The link that is found is taken, or there is none.
use Rattle.std.proofs.Common.{sym}
use Rattle.qo_model.specs.Unplug.{names_kid}
use Rattle.qo_buses.proofs.LeavingLemmas.{goes-take_none, goes-take_where}
use Rattle.qo_buses.proofs.leaving.take_kid.Goals as goal

pub returns-in-Some : goal.returns-in-Some
returns-in-Some g c =
    goes-take_where (names_kid c.args.birth) c.args.heap.now c.take_link.new.heap c.args.bus.birth c.in-Some.at (sym c.in-Some.ensures.place)
    c.take_link.ensures

pub returns-in_default : goal.returns-in_default
returns-in_default g c = goes-take_none (names_kid c.args.birth) c.args.heap.now c.args.bus.birth (sym c.in_default.ensures.place)
