-- Acts leave who is there, and who is quiet.
use Rattle.std.proofs.Common.{arith}
use Rattle.qo_plug.proofs.AttemptLemmas.{buses-leaves, last-is, leaves-live, quiet-may}
use Rattle.qo_plug.proofs.failed_plug.act_last.Goals as goal

pub act-requires-clause-live : goal.act-requires-clause-live
act-requires-clause-live g c =
    leaves-live c.args.heap.now c.act_buses.new.heap (buses-leaves c.args.act _ c.args.heap.now c.act_buses.new.heap c.act_buses.ensures) c.args.device
    c.requires.live

pub act-requires-clause-timely : goal.act-requires-clause-timely
act-requires-clause-timely g c =
    quiet-may c.args.act c.act_buses.new.heap c.args.device.birth
    ((buses-leaves c.args.act _ c.args.heap.now c.act_buses.new.heap c.act_buses.ensures).quiet c.args.device.birth
    (c.requires.quiet c.args.device.birth (omega arith)))

pub returns : goal.returns
returns g c = last-is c.args.act c.args.device.birth c.args.heap.now c.act_buses.new.heap c.act.new.self c.act_buses.ensures c.act.ensures.now
