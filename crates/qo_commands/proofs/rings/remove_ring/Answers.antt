-- The ring is removed, or what refuses it is told.
use Rattle.qo_realize.specs.Chardevs.{chardev_removed}
use Rattle.qo_commands.specs.Commands.{altered}
use Rattle.qo_commands.proofs.ChangeLemmas.{answered-came}
use Rattle.qo_requests.specs.declared.calls.Alteration.TheVariants.{ChardevRemove}
use Rattle.qo_requests.specs.declared.calls.Change.TheVariants.{Alter}
use Rattle.qo_commands.specs.declared.touched.Touched.TheVariants.{Nothing}
use Rattle.qo_commands.proofs.TouchedLemmas.{done-touches, ring-removed-touches}
use Rattle.qo_commands.proofs.rings.remove_ring.Goals as goal

pub returns-clause-came : goal.returns-clause-came
unfolding altered
returns-clause-came c = λ b s.
    answered-came (chardev_removed b c.args.id.now) c.chardev_remove.result c.done_by.result c.chardev_remove.new.self (c.chardev_remove.ensures.change b s)
    c.done_by.ensures.done

pub returns-clause-touched : goal.returns-clause-touched
returns-clause-touched c = λ b s.
    done-touches b (Alter (ChardevRemove c.args.id.now)) c.done_by.result c.chardev_remove.new.self Nothing (returns-clause-came c b s) c.done_by.ensures.touched (ring-removed-touches b c.args.id.now)
