-- The removal is asked for, or what refuses it is told.
use Rattle.qo_model.specs.Hotplug.{asked}
use Rattle.qo_commands.specs.Commands.{altered}
use Rattle.qo_commands.proofs.ChangeLemmas.{answered-came}
use Rattle.qo_requests.specs.declared.calls.Alteration.TheVariants.{DeviceDel}
use Rattle.qo_requests.specs.declared.calls.Change.TheVariants.{Alter}
use Rattle.qo_commands.specs.declared.touched.Touched.TheVariants.{Nothing}
use Rattle.qo_commands.proofs.TouchedLemmas.{done-touches, unplugged-touches}
use Rattle.qo_commands.proofs.changes.unplug.Goals as goal

pub returns-clause-came : goal.returns-clause-came
unfolding altered
returns-clause-came g c = λ b s.
    answered-came (asked b c.args.id.now) c.ask_removal.result c.done_by.result c.ask_removal.new.self (c.ask_removal.ensures.asked b s) c.done_by.ensures.done

pub returns-clause-touched : goal.returns-clause-touched
returns-clause-touched g c = λ b s.
    done-touches b (Alter (DeviceDel c.args.id.now)) c.done_by.result c.ask_removal.new.self Nothing (returns-clause-came g c b s) c.done_by.ensures.touched (unplugged-touches b c.args.id.now)
