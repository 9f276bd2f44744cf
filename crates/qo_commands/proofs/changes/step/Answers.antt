-- The time went on, and it is told; or what refuses that.
use Rattle.qo_realize.specs.Time.{advanced}
use Rattle.qo_commands.specs.Commands.{altered}
use Rattle.qo_commands.proofs.ChangeLemmas.{step-err, step-ok}
use Rattle.qo_requests.specs.declared.calls.Alteration.TheVariants.{XStep}
use Rattle.qo_requests.specs.declared.calls.Change.TheVariants.{Alter}
use Rattle.qo_commands.specs.declared.touched.Touched.TheVariants.{Registers}
use Rattle.qo_commands.proofs.TouchedLemmas.{done-touches, refused-said, stepped-touches}
use Rattle.qo_commands.proofs.changes.step.Goals as goal

pub returns-in-Ok-clause-came : goal.returns-in-Ok-clause-came
unfolding altered
returns-in-Ok-clause-came c = λ b s.
    step-ok (advanced b c.args.ns) c.advance.new.self c.in-Ok.now c.having_touched.result (c.in-Ok.ensures.advanced b s) c.having_touched.ensures.done

pub returns-in-Err-clause-came : goal.returns-in-Err-clause-came
unfolding altered
returns-in-Err-clause-came c = λ b s.
    step-err (advanced b c.args.ns) c.advance.new.self c.in-Err.code c.refused.result (c.in-Err.ensures.advanced b s) c.refused.ensures.done

pub returns-in-Ok-clause-touched : goal.returns-in-Ok-clause-touched
returns-in-Ok-clause-touched c = λ b s.
    done-touches b (Alter (XStep c.args.ns)) c.having_touched.result c.advance.new.self Registers (returns-in-Ok-clause-came c b s)
    c.having_touched.ensures.touched (stepped-touches b c.args.ns)

pub returns-in-Err-clause-touched : goal.returns-in-Err-clause-touched
returns-in-Err-clause-touched c = λ b s.
    done-touches b (Alter (XStep c.args.ns)) c.refused.result c.advance.new.self Registers (returns-in-Err-clause-came c b s)
    (refused-said Registers c.refused.result c.in-Err.code c.refused.ensures.refused c.refused.ensures.touched) (stepped-touches b c.args.ns)
