-- The hold is released, or what refuses it is told.
use Rattle.qo_realize.specs.Resets.{released_at}
use Rattle.qo_commands.specs.Commands.{altered}
use Rattle.qo_commands.proofs.ChangeLemmas.{answered-came}
use Rattle.qo_requests.specs.declared.calls.Alteration.TheVariants.{XResetRelease}
use Rattle.qo_requests.specs.declared.calls.Change.TheVariants.{Alter}
use Rattle.qo_commands.specs.declared.touched.Touched.TheVariants.{Registers}
use Rattle.qo_commands.proofs.TouchedLemmas.{done-touches, released-touches}
use Rattle.qo_commands.proofs.changes.release.Goals as goal

pub returns-clause-came : goal.returns-clause-came
unfolding altered
returns-clause-came g c = λ b s.
    answered-came (released_at b c.args.path.now) c.release.result c.done_by.result c.release.new.self (c.release.ensures.released b s) c.done_by.ensures.done

pub returns-clause-touched : goal.returns-clause-touched
returns-clause-touched g c = λ b s.
    done-touches b (Alter (XResetRelease c.args.path.now)) c.done_by.result c.release.new.self Registers (returns-clause-came g c b s) c.done_by.ensures.touched (released-touches b c.args.path.now)
