-- For proofs alone. How the rows of a net come one after another.
use Rattle.std.specs.Prelude.{◌≡◌, ℕ, suc, ◌+◌, ◌<◌, ◌≤◌, Bool, true, false, List, [], ◌∷◌, ◌++◌, length, slice_index_or, slice_set, Option, None, Some, ⊤}
use Rattle.qo_irq.specs.Wires.{Wire, input, names_below, off, or}
use Rattle.qo_irq.specs.declared.net.TheConstants.{MAX_LINES}
use Rattle.qo_model.specs.Board.{Board}
use Rattle.qo_model.specs.Depth.{leads}
use Rattle.qo_model.specs.Reset.{below}
use Rattle.qo_layout.specs.declared.wiring.Row.{Row}
use Rattle.qo_layout.specs.declared.wiring.Wiring.{Wiring}
use Rattle.qo_layout.specs.declared.wiring.Wiring.TheVariants.{Own, Masked, Joined}
use Rattle.qo_layout.specs.Rows.{HasRow}

-- the line of an object comes after others, if there is an object
abbrev pub HasMore : List Row → Option ℕ → List ℕ → List ℕ → Type 0
HasMore rows None old new = new ≡ old
HasMore rows (Some o) old new = (line : ℕ) × HasRow rows o line × (new ≡ old ++ line ∷ [])

-- each object of a list comes after all that is below it
pub record IsBefore (os : List ℕ) (i m : ℕ) : Type 0 where
  pub place : ℕ
  pub earlier : place < i
  pub there : slice_index_or os place 0 ≡ m

abbrev pub ComeAfter : Board → List ℕ → Type 0
ComeAfter b os = (i m : ℕ) → i < length os → leads (below b) (slice_index_or os i 0) m ≡ true → IsBefore os i m

-- each object has a line
abbrev pub HasAll : List Row → List ℕ → Type 0
HasAll rows [] = ⊤
HasAll rows (o ∷ os) = ((line : ℕ) × HasRow rows o line) × HasAll rows os

-- the wires that a line takes, after so many others, and its row
abbrev pub wires_for : Wiring → ℕ → List ℕ → List Wire
wires_for Own n lines = input false ∷ []
wires_for Masked n lines = or lines ∷ input false ∷ off n (n + 1) ∷ []
wires_for Joined n lines = or lines ∷ []

abbrev pub row_for : Wiring → ℕ → ℕ → Row
row_for Own n o = record { object = o; input = Some n; line = n }
row_for Masked n o = record { object = o; input = Some (n + 1); line = n + 2 }
row_for Joined n o = record { object = o; input = None; line = n }

-- each of the wires from a number on names lower lines
abbrev pub NameLower : ℕ → List Wire → Type 0
NameLower n [] = ⊤
NameLower n (wire ∷ wires) = (names_below n wire ≡ true) × NameLower (suc n) wires

-- a line was added
pub record IsAdded (wiring : Wiring) (o : ℕ) (lines : List ℕ) (old new : List Wire) (row : Row) : Type 0 where
  pub wires : new ≡ old ++ wires_for wiring (length old) lines
  pub row_is : row ≡ row_for wiring (length old) o
  pub lower : NameLower (length old) (wires_for wiring (length old) lines)

-- there is room for one
abbrev pub HasRoom : List Wire → Type 0
HasRoom wires = length wires + 3 ≤ MAX_LINES

-- an input is set, if there is one
abbrev pub with_input : Option ℕ → Bool → List Wire → List Wire
with_input None high wires = wires
with_input (Some x) high wires = slice_set wires x (input high)
