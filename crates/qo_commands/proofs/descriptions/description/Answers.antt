-- The rings are those of the board, and so is that a removal is pending.
use Rattle.std.proofs.Common.{◌∙◌, sym}
use Rattle.qo_commands.proofs.descriptions.description.Goals as goal

pub returns : goal.returns
returns g c = λ b s.
    c.describe.ensures b (rw c.heap.ensures s.shows)
    (record { rings = c.in_ok-rings.ensures b s ∙ sym c.as_slice.ensures.value; pending = c.any_pending.ensures b s })
