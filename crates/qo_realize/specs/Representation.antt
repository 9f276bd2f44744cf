-- For proofs alone. The board that a machine stands at.
use Rattle.std.specs.Prelude.{◌≡◌, []}
use Rattle.qo_model.specs.Board.{Board}
use Rattle.qo_heap.specs.Board.{Shows}
use Rattle.qo_heap.specs.Book.{IsBook}
use Rattle.qo_realize.specs.SoundBoard.{SoundBoard}
use Rattle.qo_realize.specs.Parts.{Parts}

-- the heap shows the board's objects, and what stands beside them is the board's; each claim is kept by a body
pub record Stands (b : Board) (p : Parts) : Type 0 where
  pub shows : Shows b p.objects
  pub anonymous : b.anonymous ≡ p.anonymous
  pub running : b.running ≡ p.running
  pub holds : b.holds ≡ p.holds
  pub pending : b.pending ≡ p.pending
  pub notices : b.notices ≡ p.notices
  pub rings : b.rings ≡ p.rings
  pub book : IsBook [] p.objects

-- there is a board that they stand for, and it is sound
abbrev pub StandsForGood : Parts → Type 0
StandsForGood p = (b : Board) × Stands b p × SoundBoard b
