-- The machine runs again.
use Rattle.std.proofs.Common.{true}
use Rattle.qo_replies.specs.declared.events.Event.TheVariants.{Resume}
use Rattle.qo_commands.specs.Commands.{altered}
use Rattle.qo_commands.proofs.ChangeLemmas.{switched-came}
use Rattle.qo_requests.specs.declared.calls.Alteration.TheVariants.{Cont}
use Rattle.qo_commands.specs.declared.touched.Touched.TheVariants.{Nothing}
use Rattle.qo_commands.proofs.TouchedLemmas.{continued-touches, said-touches}
use Rattle.qo_commands.proofs.changes.cont.Goals as goal

pub returns-clause-came : goal.returns-clause-came
unfolding altered
returns-clause-came c = λ b s.
    switched-came b true Resume c.set_running.result c.switched.result c.set_running.new.self (c.set_running.ensures.stands b s)
    (c.set_running.ensures.changes b s) c.switched.ensures.done

pub returns-clause-touched : goal.returns-clause-touched
returns-clause-touched c = λ b s. said-touches b Cont Nothing c.switched.result.touched c.switched.ensures.touched (continued-touches b)
