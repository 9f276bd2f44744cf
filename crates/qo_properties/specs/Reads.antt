-- For proofs alone. What is read of the board.
use Rattle.std.specs.Prelude.{◌≡◌, ℕ, Bool, false, ◌==◌, ◌&&◌, not, if◌then◌else◌, List, codes, Option, Some, None, is_none, is_some, Result, Ok, Err, ⊤}
use Rattle.std.specs.Option.{option_map_or}
use Rattle.std.specs.Str.{bytes_eq}
use Rattle.qo_values.specs.declared.births.TheConstants.{ROOT_BIRTH}
use Rattle.qo_values.specs.declared.codes.Code.{Code}
use Rattle.qo_slots.specs.declared.keys.Key.{Key}
use Rattle.qo_model.specs.Board.{Board, Record, Slot, alias, slot_named}
use Rattle.qo_model.specs.Clocks.{source_of}
use Rattle.qo_model.specs.Detachment.{detached_row}
use Rattle.qo_model.specs.Paths.{place_of}
use Rattle.qo_model.specs.Properties.{object_at}
use Rattle.qo_model.specs.declared.detached.Detached.{Detached}
use Rattle.qo_properties.specs.declared.refusals.Refusal.{Refusal}
use Rattle.qo_properties.specs.declared.refusals.Refusal.TheVariants.{Refused, Memory}

-- an object as it is told, if it is one without a parent
abbrev pub detached_in : Board → Record → Option Detached
detached_in b r = if not (r.birth == ROOT_BIRTH) && is_none (place_of b r.birth) then Some (detached_row b r) else None

-- an answer, as f shows it, is what a definition gives, or there was not enough memory
abbrev pub Answers : {T U : Type 0} → (T → U) → Result T Refusal → Result U Code → Type 0
Answers f (Ok value) given = given ≡ Ok (f value)
Answers f (Err (Refused code)) given = given ≡ Err code
Answers f (Err Memory) given = ⊤

-- the birth of the object that is answered, or the code
abbrev pub birth_told : Result Key Code → Result ℕ Code
birth_told (Ok key) = Ok key.birth
birth_told (Err code) = Err code

-- whether a property of n, of this name, is the period of a clock with a source, which is read by that
abbrev pub is_derived : Board → ℕ → List ℕ → Bool
is_derived b n name = bytes_eq name (codes "period") && is_some (source_of b n)

-- whether such a period is read of a slot of n, of this name; an alias reads as the property that it passes on to
abbrev pub derived_in : Board → ℕ → List ℕ → Slot → Bool
derived_in b n name (alias m property) = is_derived b m property
derived_in b n name s = is_derived b n name

-- whether it is read by a name of n, and by a name of the object at a path
abbrev pub reads_derived : Board → ℕ → List ℕ → Bool
reads_derived b n name = option_map_or (derived_in b n name) (slot_named b n name) false

abbrev pub reads_derived_at : Board → List ℕ → List ℕ → Bool
reads_derived_at b path name = elim (object_at b path) [ Ok n ↦ reads_derived b n name | Err code ↦ false ]
