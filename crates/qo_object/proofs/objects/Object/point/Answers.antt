use Rattle.qo_object.specs.Slots.{pointed}
use Rattle.qo_object.proofs.SlotLemmas.{length-changed}
use Rattle.qo_object.proofs.objects.Object.point.Goals as goal

pub invariant_of-self : goal.invariant_of-self
invariant_of-self c = rw (c.point.ensures, length-changed (pointed c.args.target) c.args.at c.self.inside.slots) c.self.invariant
