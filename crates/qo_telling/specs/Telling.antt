-- What listeners hear of the notes of a board.
use Rattle.std.specs.Prelude.{◌≡◌, ℕ, ◌^◌, ◌-◌, ◌<◌, ◌≤◌, List, [], ◌∷◌, ◌++◌, length}
use Rattle.qo_values.specs.declared.limits.TheConstants.{NOTES_KEPT}
use Rattle.qo_model.specs.Board.{Board}
use Rattle.qo_model.specs.declared.notes.Note.{Note}
use Rattle.qo_listen.specs.Ears.{Ear, Heard}

-- a listener heard a front of some notes
abbrev pub HeardFront : List Note → Ear → Ear → Type 0
HeardFront notes old new = (front back : List Note) × (notes ≡ front ++ back) × Heard front old new

-- each listener did, one perhaps more than the next
abbrev pub HeardFronts : List Note → List Ear → List Ear → Type 0
HeardFronts notes [] news = news ≡ []
HeardFronts notes (old ∷ olds) [] = ⊥
HeardFronts notes (old ∷ olds) (new ∷ news) = HeardFront notes old new × HeardFronts notes olds news

-- the total of a board's notes counts each of them
abbrev pub IsCounted : Board → Type 0
IsCounted b = length b.notes < 2 ^ 64 - 1

-- some notes are those of a board from a number on, and all of them are kept
pub record IsNew (b : Board) (from : ℕ) (more : List Note) : Type 0 where
  pub notes : (before : List Note) × (b.notes ≡ before ++ more) × (length before ≡ from)
  pub kept : length more ≤ NOTES_KEPT
  pub counted : IsCounted b
