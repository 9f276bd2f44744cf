-- The ring is added, or what refuses it is told.
use Rattle.qo_realize.specs.Chardevs.{chardev_added}
use Rattle.qo_commands.specs.Commands.{altered}
use Rattle.qo_commands.proofs.ChangeLemmas.{made-alters}
use Rattle.qo_requests.specs.declared.calls.Alteration.TheVariants.{ChardevAdd}
use Rattle.qo_commands.specs.declared.touched.Touched.TheVariants.{Nothing}
use Rattle.qo_commands.proofs.TouchedLemmas.{if_altered-touches, ring-added-touches}
use Rattle.qo_commands.proofs.rings.add_ring.Goals as goal

pub returns-clause-came : goal.returns-clause-came
unfolding altered
returns-clause-came c = λ b s.
    made-alters b c.chardev_add.new.self (chardev_added b c.args.id.now c.args.kind.now c.args.size) c.chardev_add.result c.outcome_of.result
    (c.chardev_add.ensures.change b s) c.outcome_of.ensures.comes

pub returns-clause-touched : goal.returns-clause-touched
returns-clause-touched c = λ b s.
    if_altered-touches b (ChardevAdd c.args.id.now c.args.kind.now c.args.size) c.outcome_of.result c.chardev_add.new.self Nothing
    (returns-clause-came c b s) c.outcome_of.ensures.touched (ring-added-touches b c.args.id.now c.args.kind.now c.args.size)
