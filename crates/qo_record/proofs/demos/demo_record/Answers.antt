-- The record, step by step.
use Rattle.std.proofs.Common.{◌∙◌, ◌-◌, ◌++◌, ap, List, ℕ}
use Rattle.qo_record.proofs.DemoLemmas.{none_written, one_written}
use Rattle.qo_record.specs.Demo.{demo_steps, numbered_all}
use Rattle.qo_record.specs.Spelling.{entries_text}
use Rattle.qo_record.proofs.demos.demo_record.Goals as goal

pub loop-step-init : goal.loop-step-init
loop-step-init c =
    ap (λ (l : List ℕ). l ++ entries_text (numbered_all (demo_steps (c.args.steps - 0) c.args.seed 1))) c.in_ok-stream.ensures ∙ none_written c.args.seed c.args.steps

pub loop-step-preserved : goal.loop-step-preserved
loop-step-preserved c =
    let added = c.in_ok-add_step.ensures in
    one_written c.args.steps c.loop-step.step c.from.result c.loop-step.draws.number c.add_step.new.draws.number
    c.loop-step.stream.items c.add_step.new.stream.items _
    c.loop-step-test.true c.loop-step.invariant c.from.ensures added.entry added.draws
