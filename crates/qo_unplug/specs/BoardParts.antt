-- For proofs alone. A heap, the holds, and what is asked of the guest, as parts of one board.
use Rattle.std.specs.Prelude.{◌≡◌, ℕ, List}
use Rattle.qo_model.specs.Board.{Board}
use Rattle.qo_hotplug.specs.Hotplug.{Asked}
use Rattle.qo_heap.specs.Board.{Shows}
use Rattle.qo_heap.specs.Objects.{Objects}

-- a heap shows a board, which has these holds, pending removals and notices
pub record Beside (b : Board) (v : Objects) (held : List ℕ) (asked : Asked) : Type 0 where
  pub shown : Shows b v
  pub holds : b.holds ≡ held
  pub pending : b.pending ≡ asked.pending
  pub notices : b.notices ≡ asked.notices
