-- The device acts, and then its buses do.
use Rattle.std.proofs.Common.{◌∙◌}
use Rattle.qo_model.specs.Clocks.{acted}
use Rattle.qo_values.specs.declared.kinds.Act.TheVariants.{Realize}
use Rattle.qo_heap.proofs.ActsLemmas.{acts-then}
use Rattle.qo_plug.proofs.StartLemmas.{act-acts, act-counts, act-periods, act-shown, realized-first, still-live}
use Rattle.qo_plug.proofs.starting.realize.Goals as goal

pub realize_buses-requires : goal.realize_buses-requires
realize_buses-requires g c =
    still-live c.args.heap.now c.act.new.self (act-acts c.args.heap.now c.act.new.self c.args.device c.act.ensures.now) c.args.device c.requires

pub returns-clause-shown : goal.returns-clause-shown
returns-clause-shown g c = λ b s.
    realized-first c.args.device.birth b c.realize_buses.new.heap
    (c.realize_buses.ensures.shown (acted Realize c.args.device.birth 0 b) (act-shown c.args.heap.now c.act.new.self c.args.device c.act.ensures.now b s))

pub returns-clause-acts : goal.returns-clause-acts
returns-clause-acts g c =
    acts-then c.args.heap.now c.act.new.self c.realize_buses.new.heap (act-acts c.args.heap.now c.act.new.self c.args.device c.act.ensures.now)
    c.realize_buses.ensures.acts

pub returns-clause-counts : goal.returns-clause-counts
returns-clause-counts g c = λ n.
    c.realize_buses.ensures.counts n ∙ act-counts c.args.heap.now c.act.new.self c.args.device c.act.ensures.now n

pub returns-clause-periods : goal.returns-clause-periods
returns-clause-periods g c = λ n.
    c.realize_buses.ensures.periods n ∙ act-periods c.args.heap.now c.act.new.self c.args.device c.act.ensures.now n
