use Rattle.qo_commands.proofs.ChangeLemmas.{add-changes}
use Rattle.qo_requests.specs.declared.calls.Addition.TheVariants.{ObjectAdd}
use Rattle.qo_requests.specs.declared.calls.Change.TheVariants.{Add}
use Rattle.qo_commands.specs.declared.touched.Touched.TheVariants.{Registers}
use Rattle.qo_commands.proofs.TouchedLemmas.{added-touches, if_made-touches}
use Rattle.qo_commands.proofs.changes.add.Goals as goal

pub returns-clause-came : goal.returns-clause-came
returns-clause-came g c = λ b s.
    add-changes b c.object_add-answer.new.self c.args.driver.now c.args.id.now c.args.props.now c.object_add-answer.result c.outcome_of.result
    (c.object_add-answer.ensures.change b s) c.outcome_of.ensures.comes

pub returns-clause-touched : goal.returns-clause-touched
returns-clause-touched g c = λ b s.
    if_made-touches b (Add (ObjectAdd c.args.driver.now c.args.id.now c.args.props.now)) c.outcome_of.result c.object_add-answer.new.self Registers
    (returns-clause-came g c b s) c.outcome_of.ensures.touched (added-touches b c.args.driver.now c.args.id.now c.args.props.now)
