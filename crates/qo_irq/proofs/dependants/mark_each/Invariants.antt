use Rattle.std.proofs.Common.{take}
use Rattle.qo_irq.specs.Kept.{AreMarked}
use Rattle.qo_irq.proofs.dependants.mark_each.Given as goal

abbrev pub invariant-loop-dependant : goal.invariant-loop-dependant
invariant-loop-dependant l = AreMarked (take l.dependant-index l.lines) l.fn.pending l.pending l.last l.highest
