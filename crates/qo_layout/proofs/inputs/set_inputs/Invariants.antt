-- The inputs of the rows before this one are set.
use Rattle.std.proofs.Common.{◌≡◌, length}
use Rattle.qo_heap.specs.Board.{Shows}
use Rattle.qo_layout.specs.Rows.{AreRows, AreWired}
use Rattle.qo_model.specs.Board.{Board}
use Rattle.qo_clocks.specs.Kept.{Clocked}
use Rattle.qo_layout.proofs.RowLemmas.{SetTo}
use Rattle.qo_layout.proofs.inputs.set_inputs.Given as goal

abbrev pub invariant-loop-row : goal.invariant-loop-row
invariant-loop-row g l =
    AreRows l.rows l.net × (length l.net ≡ length l.fn.net) × ((b : Board) → AreWired b l.rows l.fn.net → AreWired b l.rows l.net)
    × ((b : Board) → Shows b l.heap → Clocked b l.heap → SetTo b l.rows l.net l.row-index)
