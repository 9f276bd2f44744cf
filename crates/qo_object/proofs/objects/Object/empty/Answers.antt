use Rattle.std.proofs.Common.{arith}
use Rattle.qo_object.proofs.SlotLemmas.{length-let_go}
use Rattle.qo_object.proofs.objects.Object.empty.Goals as goal

pub invariant_of-self : goal.invariant_of-self
invariant_of-self c =
    rw c.empty.ensures.now (omega (arith, length-let_go c.args.at c.self.inside.slots, c.self.invariant.0), c.self.invariant.1)
