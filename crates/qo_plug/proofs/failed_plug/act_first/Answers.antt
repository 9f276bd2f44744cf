-- Acts leave who is quiet quiet.
use Rattle.qo_plug.proofs.AttemptLemmas.{act-leaves, first-is}
use Rattle.qo_plug.proofs.failed_plug.act_first.Goals as goal

pub act_buses-requires : goal.act_buses-requires
act_buses-requires g c =
    record { quiet = λ n le. (act-leaves c.args.act c.args.device.birth c.args.heap.now c.act.new.self c.act.ensures.now).quiet n (c.requires.quiet n le) }

pub returns : goal.returns
returns g c = first-is c.args.act c.args.device.birth c.args.heap.now c.act.new.self c.act_buses.new.heap c.act.ensures.now c.act_buses.ensures
