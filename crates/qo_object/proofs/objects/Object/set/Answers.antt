use Rattle.qo_object.specs.Slots.{with_val}
use Rattle.qo_object.proofs.SlotLemmas.{length-changed}
use Rattle.qo_object.proofs.objects.Object.set.Goals as goal

pub invariant_of-self : goal.invariant_of-self
invariant_of-self c = rw (c.set.ensures, length-changed (with_val c.args.val) c.args.at c.self.inside.slots) c.self.invariant
