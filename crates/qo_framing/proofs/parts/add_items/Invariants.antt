-- The items so far and the cut of what is left are those of all.
use Rattle.std.proofs.Common.{◌≡◌}
use Rattle.qo_framing.specs.Cut.{cut, followed}
use Rattle.qo_framing.specs.Parts.{state_of}
use Rattle.qo_framing.proofs.Cuts.{weight}
use Rattle.qo_framing.proofs.parts.add_items.Given as goal

abbrev pub invariant-loop-stop : goal.invariant-loop-stop
invariant-loop-stop l =
    followed l.items.items (cut (state_of l.gap) l.left) ≡ followed l.fn.items.items (cut (state_of l.fn.gap) l.fn.bytes)

abbrev pub decreases-loop-stop : goal.decreases-loop-stop
decreases-loop-stop l = weight (state_of l.gap) l.left
