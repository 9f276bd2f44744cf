-- The bus that is found acts.
use Rattle.std.specs.Option.{option_and_then}
use Rattle.std.proofs.Common.{slice_get}
use Rattle.qo_model.specs.Board.{slots_at}
use Rattle.qo_model.specs.Devices.{bus_in}
use Rattle.qo_plug.proofs.StartLemmas.{act-acts, act-counts, act-periods, found-shown}
use Rattle.qo_plug.proofs.starting.realize_at.Goals as goal

pub returns-in-Some-clause-shown : goal.returns-in-Some-clause-shown
returns-in-Some-clause-shown g c = λ b s.
    found-shown c.args.heap.now c.act.new.self c.in-Some.bus c.act.ensures.now b s
    (option_and_then (bus_in b) (slice_get (slots_at b c.args.device.birth) c.args.at)) (c.in-Some.ensures.bus b s)

pub returns-in-Some-clause-acts : goal.returns-in-Some-clause-acts
returns-in-Some-clause-acts g c = act-acts c.args.heap.now c.act.new.self c.in-Some.bus c.act.ensures.now

pub returns-in-Some-clause-counts : goal.returns-in-Some-clause-counts
returns-in-Some-clause-counts g c = act-counts c.args.heap.now c.act.new.self c.in-Some.bus c.act.ensures.now

pub returns-in-Some-clause-periods : goal.returns-in-Some-clause-periods
returns-in-Some-clause-periods g c = act-periods c.args.heap.now c.act.new.self c.in-Some.bus c.act.ensures.now
