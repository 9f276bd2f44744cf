-- For proofs alone. The lists of what is held, each of its own kind.
use Rattle.std.specs.Prelude.{ℕ, Bool, not, ◌&&◌, ◌==◌, nat_lt, if◌then◌else◌, List, [], ◌∷◌, Option, Some, None}
use Rattle.std.specs.List.{list_any}
use Rattle.std.specs.Option.{option_map}
use Rattle.std.specs.Set.{remove_key}
use Rattle.std.specs.Str.{bytes_eq}
use Rattle.std.specs.declared.result.Result.{Result}
use Rattle.std.specs.declared.result.Result.TheVariants.{Ok, Err}
use Rattle.qo_values.specs.declared.limits.TheConstants.{BUS_SLOTS, DIMM_ALIGN}
use Rattle.qo_values.specs.declared.ranges.Range.{Range}
use Rattle.qo_values.specs.Placing.{range_at, is_in_window, overlaps_any, least, free_address}
use Rattle.qo_claims.specs.declared.errors.ClaimError.{ClaimError}
use Rattle.qo_claims.specs.declared.errors.ClaimError.TheVariants as refusal
use Rattle.qo_claims.specs.declared.slots.BusSlot.{BusSlot}

-- a claim on x, where x is not held
abbrev pub unless_taken : {X : Type 0} → Bool → X → Result X ClaimError
unless_taken held x = if held then Err refusal.Taken else Ok x

-- a claim on what there is, where there is something
abbrev pub unless_full : {X : Type 0} → Option X → Result X ClaimError
unless_full None = Err refusal.Full
unless_full (Some x) = Ok x

-- ids

-- an id is among these
abbrev pub has_id : List ℕ → List (List ℕ) → Bool
has_id id ids = list_any (bytes_eq id) ids

-- these without an id
abbrev pub without_id : List ℕ → List (List ℕ) → List (List ℕ)
without_id id ids = remove_key (bytes_eq id) ids

-- an id: Taken where it is taken
abbrev pub id_answer : List ℕ → List (List ℕ) → Result (List ℕ) ClaimError
id_answer id ids = unless_taken (has_id id ids) id

-- births

-- a birth is among these
abbrev pub has_birth : ℕ → List ℕ → Bool
has_birth birth births = list_any (λ b. birth == b) births

-- these without a birth
abbrev pub without_birth : ℕ → List ℕ → List ℕ
without_birth birth births = remove_key (λ b. birth == b) births

-- a birth: Taken where it is taken
abbrev pub birth_answer : ℕ → List ℕ → Result ℕ ClaimError
birth_answer birth births = unless_taken (has_birth birth births) birth

-- slots of buses

-- two slots are the same
abbrev pub slot_eq : BusSlot → BusSlot → Bool
slot_eq a b = (a.bus == b.bus) && (a.slot == b.slot)

-- a slot is among these
abbrev pub has_bus_slot : BusSlot → List BusSlot → Bool
has_bus_slot s slots = list_any (slot_eq s) slots

-- these without a slot
abbrev pub without_bus_slot : BusSlot → List BusSlot → List BusSlot
without_bus_slot s slots = remove_key (slot_eq s) slots

-- a slot of a bus
abbrev pub bus_slot : ℕ → ℕ → BusSlot
bus_slot bus slot = record { bus = bus; slot = slot }

-- the least of the slots of a bus, from 0, that is not held
abbrev pub least_free : ℕ → List BusSlot → Option ℕ
least_free bus slots = least (λ slot. not (has_bus_slot (bus_slot bus slot) slots)) 0 BUS_SLOTS

-- the slot that is named: Range where a bus has none of that number, Taken where it is taken; else the least free, and Full where there is none
abbrev pub slot_answer : ℕ → Option ℕ → List BusSlot → Result BusSlot ClaimError
slot_answer bus (Some slot) slots =
    if nat_lt slot BUS_SLOTS then unless_taken (has_bus_slot (bus_slot bus slot) slots) (bus_slot bus slot) else Err refusal.Range
slot_answer bus None slots = unless_full (option_map (bus_slot bus) (least_free bus slots))

-- ranges of addresses

-- two ranges are the same
abbrev pub range_eq : Range → Range → Bool
range_eq a b = (a.at == b.at) && (a.size == b.size)

-- these and one more, by rising addresses
abbrev pub with_range : Range → List Range → List Range
with_range r [] = r ∷ []
with_range r (x ∷ xs) = if nat_lt r.at x.at then r ∷ x ∷ xs else x ∷ with_range r xs

-- these without a range
abbrev pub without_range : Range → List Range → List Range
without_range r ranges = remove_key (range_eq r) ranges

-- the range that is named: Range where it leaves the window, Taken where it overlaps one that is taken; else where there
-- is place for it at a multiple of `DIMM_ALIGN`, and Full where there is none
abbrev pub range_answer : Option ℕ → ℕ → List Range → Result Range ClaimError
range_answer (Some at) size ranges =
    if is_in_window (range_at at size)
    then unless_taken (overlaps_any (range_at at size) ranges) (range_at at size)
    else Err refusal.Range
range_answer None size ranges = unless_full (option_map (λ at. range_at at size) (free_address ranges size DIMM_ALIGN))
