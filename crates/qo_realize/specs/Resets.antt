-- Holds on objects by their paths (docs/devel/reset.rst, "Triggering reset"; the refusals are the profile's).
use Rattle.std.specs.Prelude.{◌≡◌, ℕ, not, if◌then◌else◌, List, codes, Some, None, Result, Ok, Err, ⊤}
use Rattle.qo_values.specs.declared.codes.Code.{Code}
use Rattle.qo_values.specs.declared.codes.Code.TheVariants.{E15, E16, E48, E49}
use Rattle.qo_values.specs.declared.kinds.ResetKind.{ResetKind}
use Rattle.qo_model.specs.Board.{Board}
use Rattle.qo_model.specs.Depth.{among}
use Rattle.qo_model.specs.Objects.{Changed}
use Rattle.qo_model.specs.Paths.{attached, found, missing, resolve, several}
use Rattle.qo_model.specs.Reset.{after_hold, exceeds_depth, released}
use Rattle.qo_heap.specs.Objects.{Objects}
use Rattle.qo_properties.specs.declared.refusals.Refusal.{Refusal}
use Rattle.qo_properties.specs.declared.refusals.Refusal.TheVariants.{Refused, Memory}
use Rattle.qo_reset.specs.Phases.{Holds}

-- the object at a path that may be held in reset, or the code where there is none, or several
abbrev pub resettable_at : Board → List ℕ → Result ℕ Code
resettable_at b path = elim (resolve b path (codes "resettable")) [ found n ↦ Ok n | missing ↦ Err E15 | several ↦ Err E16 ]

-- a change of the object at a path, or the code that refuses the path
abbrev pub at_path : Board → (ℕ → Changed) → Result ℕ Code → Changed
at_path b change (Ok n) = change n
at_path b change (Err code) = record { refusal = Some code; board = b }

-- a hold, for a reset of a type: not on what is detached, and not where it is one too many
abbrev pub held_of : Board → ℕ → ResetKind → Changed
held_of b n kind =
    if not (attached b n) then record { refusal = Some E15; board = b }
    else if exceeds_depth b n then record { refusal = Some E48; board = b }
    else record { refusal = None; board = after_hold b n kind }

abbrev pub held_at : Board → List ℕ → ResetKind → Changed
held_at b path kind = at_path b (λ n. held_of b n kind) (resettable_at b path)

-- a hold less, where there is one on the object
abbrev pub released_of : Board → ℕ → Changed
released_of b n = if among b.holds n then record { refusal = None; board = released b n } else record { refusal = Some E49; board = b }

abbrev pub released_at : Board → List ℕ → Changed
released_at b path = at_path b (released_of b) (resettable_at b path)

-- a change of holds was made: a heap and holds are those of its board; or it is refused by its code and leaves the board; there may be want of memory
abbrev pub Resets : Board → Changed → Result (Unit {0}) Refusal → List ℕ → Objects → Type 0
Resets b change (Ok done) holds v = (change.refusal ≡ None) × Holds change.board holds v
Resets b change (Err (Refused code)) holds v = change ≡ record { refusal = Some code; board = b }
Resets b change (Err Memory) holds v = ⊤

-- the same of a change that takes no memory
abbrev pub Releases : Board → Changed → Result (Unit {0}) Code → List ℕ → Objects → Type 0
Releases b change (Ok done) holds v = (change.refusal ≡ None) × Holds change.board holds v
Releases b change (Err code) holds v = change ≡ record { refusal = Some code; board = b }
