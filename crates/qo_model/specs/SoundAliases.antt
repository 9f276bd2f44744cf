-- When the aliases of a board are sound: what they pass on to lasts as long as they do.
use Rattle.std.specs.Prelude.{◌≡◌, ℕ, true, Bool, filter, codes, if◌then◌else◌, List, [], ◌∷◌, ⊤}
use Rattle.std.specs.Str.{bytes_eq}
use Rattle.std.specs.List.{AllByRecursion}
use Rattle.qo_values.specs.declared.births.TheConstants.{PERIPHERAL_BIRTH, ANONYMOUS_BIRTH, OBJECTS_BIRTH}
use Rattle.qo_model.specs.Board.{Board, Record, Slot, alias}
use Rattle.qo_model.specs.Depth.{among}
use Rattle.qo_model.specs.Paths.{children_in}

-- the objects whose children go by command
abbrev pub is_open : ℕ → Bool
is_open n = among (PERIPHERAL_BIRTH ∷ ANONYMOUS_BIRTH ∷ OBJECTS_BIRTH ∷ []) n

-- the child that an object has for as long as it is there: its clock
abbrev pub is_clock_slot : List ℕ × Slot → Bool
is_clock_slot s = bytes_eq s.0 (codes "clk")

abbrev pub lasting : Record → List ℕ
lasting r = if is_open r.birth then [] else children_in (filter is_clock_slot r.slots)

-- an alias passes on to one of these objects
abbrev pub PassesTo : List ℕ → Slot → Type 0
PassesTo children (alias n name) = among children n ≡ true
PassesTo children s = ⊤

-- each alias of an object passes on to a child that the object has for as long as it is there
abbrev pub SoundAliases : Board → Type 0
SoundAliases b = AllByRecursion (λ (r : Record). AllByRecursion (λ (s : List ℕ × Slot). PassesTo (lasting r) s.1) r.slots) b.records
