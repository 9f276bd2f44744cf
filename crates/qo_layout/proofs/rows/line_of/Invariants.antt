-- No row from the place on is of the object.
use Rattle.std.proofs.Common.{◌≢◌, ◌≤◌, ◌<◌, ℕ, length}
use Rattle.qo_layout.specs.Rows.{row_at}
use Rattle.qo_layout.proofs.rows.line_of.Given as goal

abbrev pub invariant-loop-at : goal.invariant-loop-at
invariant-loop-at l = (l.at ≤ length l.rows) × ((i : ℕ) → l.at ≤ i → i < length l.rows → (row_at l.rows i).object ≢ l.object)

abbrev pub decreases-loop-at : goal.decreases-loop-at
decreases-loop-at l = l.at
