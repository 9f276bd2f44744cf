-- Acts leave who is there, and who is quiet.
use Rattle.std.proofs.Common.{ap, ◌∙◌}
use Rattle.qo_values.specs.declared.kinds.Act.TheVariants.{Realize, Unrealize, Enter, Hold}
use Rattle.qo_plug.specs.Attempts.{last_acted, let_out, passed_on}
use Rattle.qo_plug.proofs.AttemptLemmas.{entered-leaves, first-leaves, held-leaves, leaves-live, let_out-leaves}
use Rattle.qo_plug.proofs.failed_plug.pass.Goals as goal

pub act_last-requires-clause-live : goal.act_last-requires-clause-live
act_last-requires-clause-live g c =
    leaves-live c.args.heap.now c.act_first.new.heap
    (first-leaves Realize c.args.device.birth c.args.heap.now c.act_first.new.heap c.act_first.ensures) c.args.device c.requires.live

pub act_last-requires-clause-quiet : goal.act_last-requires-clause-quiet
act_last-requires-clause-quiet g c = λ n le.
    (first-leaves Realize c.args.device.birth c.args.heap.now c.act_first.new.heap c.act_first.ensures).quiet n
    (c.requires.quiet n le)

pub act_last-requires-2-clause-live : goal.act_last-requires-2-clause-live
act_last-requires-2-clause-live g c =
    leaves-live c.args.heap.now c.act_last.new.heap
    (entered-leaves c.args.device.birth c.args.heap.now c.act_first.new.heap c.act_last.new.heap c.act_first.ensures c.act_last.ensures) c.args.device
    c.requires.live

pub act_last-requires-2-clause-quiet : goal.act_last-requires-2-clause-quiet
act_last-requires-2-clause-quiet g c = λ n le.
    (entered-leaves c.args.device.birth c.args.heap.now c.act_first.new.heap c.act_last.new.heap c.act_first.ensures c.act_last.ensures).quiet n
    (c.requires.quiet n le)

pub let_out-requires-clause-live : goal.let_out-requires-clause-live
let_out-requires-clause-live g c =
    leaves-live c.args.heap.now c.act_last-2.new.heap
    (held-leaves c.args.device.birth c.args.heap.now c.act_first.new.heap c.act_last.new.heap c.act_last-2.new.heap c.act_first.ensures c.act_last.ensures
    c.act_last-2.ensures) c.args.device c.requires.live

pub let_out-requires-clause-quiet : goal.let_out-requires-clause-quiet
let_out-requires-clause-quiet g c = λ n le.
    (held-leaves c.args.device.birth c.args.heap.now c.act_first.new.heap c.act_last.new.heap c.act_last-2.new.heap c.act_first.ensures c.act_last.ensures
    c.act_last-2.ensures).quiet n
    (c.requires.quiet n le)

pub act_last-requires-3-clause-live : goal.act_last-requires-3-clause-live
act_last-requires-3-clause-live g c =
    leaves-live c.args.heap.now c.let_out.new.heap
    (let_out-leaves c.args.out c.args.device.birth c.args.heap.now c.act_first.new.heap c.act_last.new.heap c.act_last-2.new.heap c.let_out.new.heap
    c.act_first.ensures c.act_last.ensures c.act_last-2.ensures
    c.let_out.ensures) c.args.device c.requires.live

pub act_last-requires-3-clause-quiet : goal.act_last-requires-3-clause-quiet
act_last-requires-3-clause-quiet g c = λ n le.
    (let_out-leaves c.args.out c.args.device.birth c.args.heap.now c.act_first.new.heap c.act_last.new.heap c.act_last-2.new.heap c.let_out.new.heap
    c.act_first.ensures c.act_last.ensures c.act_last-2.ensures
    c.let_out.ensures).quiet n
    (c.requires.quiet n le)

pub returns : goal.returns
unfolding passed_on
returns g c =
    c.act_last-3.ensures
    ∙ ap (last_acted Unrealize c.args.device.birth)
    (c.let_out.ensures
    ∙ ap (let_out c.args.out c.args.device.birth)
    (c.act_last-2.ensures
    ∙ ap (last_acted Hold c.args.device.birth)
    (c.act_last.ensures ∙ ap (last_acted Enter c.args.device.birth) c.act_first.ensures)))
