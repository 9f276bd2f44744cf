use Rattle.std.proofs.Common.{◌-◌, length}
use Rattle.qo_irq.specs.Kept.{InputsStay, IsSpreading}
use Rattle.qo_irq.proofs.spread.spread.Given as goal

abbrev pub invariant-loop-line : goal.invariant-loop-line
invariant-loop-line l = record { spreading : IsSpreading l.gates l.levels l.pending l.line l.last; inputs : InputsStay l.gates l.fn.levels l.levels }

abbrev pub decreases-loop-line : goal.decreases-loop-line
decreases-loop-line l = length l.gates - l.line
