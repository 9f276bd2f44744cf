-- The lines of the slots before this one are there.
use Rattle.std.proofs.Common.{◌≡◌, ℕ, length}
use Rattle.std.specs.Prelude.{IfSome}
use Rattle.qo_heap.specs.Board.{Shows}
use Rattle.qo_layout.specs.Rows.{AreSlots, HasRow, kept_line}
use Rattle.qo_model.specs.Board.{Board}
use Rattle.qo_layout.proofs.slots.list_slots.Given as goal

abbrev pub invariant-loop-slot : goal.invariant-loop-slot
invariant-loop-slot g l =
    (length l.slots.items ≡ l.slot) × ((b : Board) → Shows b l.heap → AreSlots b l.rows l.slot l.slots.items)
    × ((n : ℕ) → IfSome (kept_line l.slots.items n) (λ x. (d : ℕ) × HasRow l.rows d x))
