-- What is left here is skipped to what all is skipped to.
use Rattle.std.proofs.Common.{◌≡◌, length}
use Rattle.qo_framing.specs.Cut.{after_skipping}
use Rattle.qo_framing.proofs.parts.after_skipping.Given as goal

abbrev pub invariant-loop-left : goal.invariant-loop-left
invariant-loop-left l = after_skipping l.left ≡ after_skipping l.fn.bytes

abbrev pub decreases-loop-left : goal.decreases-loop-left
decreases-loop-left l = length l.left
