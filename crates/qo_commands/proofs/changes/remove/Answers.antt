-- The object is removed, or what refuses it is told.
use Rattle.qo_realize.specs.Users.{object_removed}
use Rattle.qo_commands.specs.Commands.{altered}
use Rattle.qo_commands.proofs.ChangeLemmas.{answered-came}
use Rattle.qo_requests.specs.declared.calls.Alteration.TheVariants.{ObjectDel}
use Rattle.qo_requests.specs.declared.calls.Change.TheVariants.{Alter}
use Rattle.qo_commands.specs.declared.touched.Touched.TheVariants.{Registers}
use Rattle.qo_commands.proofs.TouchedLemmas.{done-touches, removed-touches}
use Rattle.qo_commands.proofs.changes.remove.Goals as goal

pub returns-clause-came : goal.returns-clause-came
unfolding altered
returns-clause-came g c = λ b s.
    answered-came (object_removed b c.args.id.now) c.object_del.result c.done_by.result c.object_del.new.self (c.object_del.ensures.change b s)
    c.done_by.ensures.done

pub returns-clause-touched : goal.returns-clause-touched
returns-clause-touched g c = λ b s.
    done-touches b (Alter (ObjectDel c.args.id.now)) c.done_by.result c.object_del.new.self Registers (returns-clause-came g c b s) c.done_by.ensures.touched (removed-touches b c.args.id.now)
