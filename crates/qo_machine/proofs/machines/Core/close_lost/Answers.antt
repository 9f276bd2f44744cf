use Rattle.qo_machine.proofs.machines.Core.close_lost.Goals as goal

pub invariant_of-self : goal.invariant_of-self
invariant_of-self c = (c.close_where.ensures.size, c.self.invariant.1)
