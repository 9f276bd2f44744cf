use Rattle.std.proofs.Common.{◌≡◌, ◌≤◌, length, option_copied}
use Rattle.qo_guest.specs.Addresses.{steps_of}
use Rattle.qo_guest.specs.Pieces.{pieces_after, size_after}
use Rattle.qo_guest.proofs.Steps.{with_steps}
use Rattle.qo_guest.proofs.words.read_steps.Given as goal

abbrev pub invariant-loop-after : goal.invariant-loop-after
invariant-loop-after l = (with_steps l.steps (pieces_after 46 (option_copied l.after)) ≡ steps_of l.word) × (length l.steps ≤ 9)

abbrev pub decreases-loop-after : goal.decreases-loop-after
decreases-loop-after l = size_after (option_copied l.after)
