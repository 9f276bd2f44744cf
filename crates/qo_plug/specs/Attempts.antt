-- For proofs alone. What a new device does over the heap where it is refused last: it acts with its buses, though it stands nowhere (include/hw/qdev-core.h,
-- "Realization").
use Rattle.std.specs.Prelude.{ℕ, nat_le, ◌&&◌, Bool, if◌then◌else◌, List, [], ◌∷◌, ◌++◌, filter_map, codes, Option, Some, None}
use Rattle.qo_values.specs.declared.kinds.Act.{Act}
use Rattle.qo_values.specs.declared.kinds.Act.TheVariants.{Realize, Unrealize, Enter, Hold, Exit}
use Rattle.qo_slots.specs.declared.keys.Key.{Key}
use Rattle.qo_model.specs.Types.{is_a}
use Rattle.qo_object.specs.Content.{Content}
use Rattle.qo_object.specs.BoardObject.{birth_of}
use Rattle.qo_heap.specs.Objects.{Objects}
use Rattle.qo_reset.specs.Phases.{walked}

-- the bus that an object is, of those from a birth on; and all of them, in the order of births
abbrev pub new_bus : ℕ → Key × Content → Option Key
new_bus n row = if nat_le n row.0.birth && is_a row.1.kind (codes "bus") then Some row.0 else None

abbrev pub new_buses : ℕ → List (Key × Content) → List ℕ
new_buses n rows = filter_map (λ (row : Key × Content). birth_of (new_bus n row)) rows

-- an act of a new device and its buses: of the device first, or last
unfoldable pub first_acted : Act → ℕ → Objects → Objects
first_acted act n v = walked act (n ∷ new_buses n v.rows) v

unfoldable pub last_acted : Act → ℕ → Objects → Objects
last_acted act n v = walked act (new_buses n v.rows ++ n ∷ []) v

abbrev pub let_out : Bool → ℕ → Objects → Objects
let_out out n v = if out then last_acted Exit n v else v

-- it is realized, goes through the phases, to the last one only where it is out, and is unrealized
unfoldable pub passed_on : Bool → ℕ → Objects → Objects
passed_on out n v = last_acted Unrealize n (let_out out n (last_acted Hold n (last_acted Enter n (first_acted Realize n v))))
