-- What is left is trimmed to what all is trimmed to.
use Rattle.std.proofs.Common.{◌≡◌, length}
use Rattle.qo_framing.specs.Cut.{trimmed}
use Rattle.qo_framing.proofs.bytes.trimmed.Given as goal

abbrev pub invariant-loop-left : goal.invariant-loop-left
invariant-loop-left l = trimmed l.left ≡ trimmed l.fn.bytes

abbrev pub decreases-loop-left : goal.decreases-loop-left
decreases-loop-left l = length l.left
