-- For proofs alone. How a net keeps the levels of its lines.
use Rattle.std.specs.Prelude.{◌≡◌, ℕ, ◌<◌, ◌≤◌, Bool, true, false, ◌||◌, ◌==◌, List, [], ◌∷◌, length, slice_index_or}
use Rattle.std.specs.List.{list_any, count_by}
use Rattle.qo_irq.specs.declared.gate.Gate.{Gate}
use Rattle.qo_irq.specs.declared.gate.Gate.TheVariants.{Input, Or, Copy, Off}
use Rattle.qo_irq.specs.declared.net.TheConstants.{MAX_LINES}
use Rattle.qo_irq.specs.Wires.{Wire, wire_of, is_input, names_below, gate_level, level_at}

-- the gates, with what was last set of the inputs
abbrev pub wires_of : List Gate → List Bool → List Wire
wires_of [] levels = []
wires_of (g ∷ gates) [] = wire_of g false ∷ wires_of gates []
wires_of (g ∷ gates) (b ∷ levels) = wire_of g b ∷ wires_of gates levels

abbrev pub gate_at : List Gate → ℕ → Gate
gate_at gates line = slice_index_or gates line Input

-- a gate names a line
abbrev pub names : ℕ → Gate → Bool
names x Input = false
names x (Or lines) = list_any (λ line. x == line) lines.items
names x (Copy line) = x == line
names x (Off line by) = (x == line) || (x == by)

-- a line is among these
abbrev pub depends : ℕ → List ℕ → Bool
depends line lines = list_any (λ x. line == x) lines

-- the lines that depend on a line
abbrev pub dependants_at : List (List ℕ) → ℕ → List ℕ
dependants_at dependants line = slice_index_or dependants line []

-- the level of a line is what its gate makes of the levels of the others
abbrev pub IsSettled : List Gate → List Bool → ℕ → Type 0
IsSettled gates levels line = level_at levels line ≡ gate_level (level_at levels) (wire_of (gate_at gates line) (level_at levels line))

-- each gate names lower lines, and is among the dependants of each line that it names; dependants are higher than their line
pub record AreWired (gates : List Gate) (dependants : List (List ℕ)) : Type 0 where
  pub lower : (line : ℕ) → line < length gates → names_below line (wire_of (gate_at gates line) false) ≡ true
  pub named : (line x : ℕ) → line < length gates → names x (gate_at gates line) ≡ true → depends line (dependants_at dependants x) ≡ true
  pub above : (line x : ℕ) → depends line (dependants_at dependants x) ≡ true → x < line

-- inputs keep their levels
abbrev pub InputsStay : List Gate → List Bool → List Bool → Type 0
InputsStay gates old new = (line : ℕ) → is_input (wire_of (gate_at gates line) false) ≡ true → level_at new line ≡ level_at old line

-- no line waits
abbrev pub AreCalm : List Bool → Type 0
AreCalm pending = (line : ℕ) → level_at pending line ≡ false

-- how many of the gates are inputs
abbrev pub input_count : List Gate → ℕ
input_count gates = count_by (λ g. is_input (wire_of g false)) gates

-- all that a net keeps
pub record IsKept (gates : List Gate) (dependants : List (List ℕ)) (levels pending : List Bool) (inputs : ℕ) : Type 0 where
  pub wired : AreWired gates dependants
  pub dependants_all : length dependants ≡ length gates
  pub levels_all : length levels ≡ length gates
  pub pending_all : length pending ≡ length gates
  pub bounded : length gates ≤ MAX_LINES
  pub settled : (line : ℕ) → line < length gates → IsSettled gates levels line
  pub calm : AreCalm pending
  pub counted : inputs ≡ input_count gates

-- a change on its way: only lines from one number to another wait, and each other line is settled
pub record IsSpreading (gates : List Gate) (levels pending : List Bool) (line last : ℕ) : Type 0 where
  pub waits : (i : ℕ) → level_at pending i ≡ true → (line ≤ i) × (i ≤ last)
  pub settled : (i : ℕ) → i < length gates → level_at pending i ≡ false → IsSettled gates levels i
  pub levels_all : length levels ≡ length gates
  pub pending_all : length pending ≡ length gates
  pub within : last < length gates

-- what was marked: of some lines those that are there, with the highest of them or the last before
pub record AreMarked (dependants : List ℕ) (old new : List Bool) (last highest : ℕ) : Type 0 where
  pub marked : (i : ℕ) → i < length old → depends i dependants ≡ true → level_at new i ≡ true
  pub others : (i : ℕ) → depends i dependants ≡ false → level_at new i ≡ level_at old i
  pub above : (i : ℕ) → i < length old → depends i dependants ≡ true → i ≤ highest
  pub least : last ≤ highest
  pub within : highest < length old
  pub same : length new ≡ length old
