-- The links are cut, or what refuses it is told.
use Rattle.qo_model.specs.Objects.{sever}
use Rattle.qo_commands.specs.Commands.{altered}
use Rattle.qo_commands.proofs.ChangeLemmas.{answered-came}
use Rattle.qo_requests.specs.declared.calls.Alteration.TheVariants.{XSever}
use Rattle.qo_requests.specs.declared.calls.Change.TheVariants.{Alter}
use Rattle.qo_commands.specs.declared.touched.Touched.TheVariants.{Registers}
use Rattle.qo_commands.proofs.TouchedLemmas.{done-touches, severed-touches}
use Rattle.qo_commands.proofs.changes.sever.Goals as goal

pub returns-clause-came : goal.returns-clause-came
unfolding altered
returns-clause-came g c = λ b s.
    answered-came (sever b c.args.birth) c.sever.result c.done_by.result c.sever.new.self (c.sever.ensures.change b s) c.done_by.ensures.done

pub returns-clause-touched : goal.returns-clause-touched
returns-clause-touched g c = λ b s.
    done-touches b (Alter (XSever c.args.birth)) c.done_by.result c.sever.new.self Registers (returns-clause-came g c b s) c.done_by.ensures.touched (severed-touches b c.args.birth)
