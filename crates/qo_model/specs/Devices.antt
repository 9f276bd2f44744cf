-- Devices on their buses: what is read of them (docs/devel/qom.rst; include/hw/qdev-core.h: buses and realization; the slots and the child names are the
-- profile's).
use Rattle.std.specs.Prelude.{not, ◌&&◌, ℕ, ◌+◌, suc, Bool, true, false, if◌then◌else◌, List, [], ◌∷◌, ◌++◌, filter_map, codes, decimal, Option, Some, None, option_and_then}
use Rattle.std.specs.List.{list_any}
use Rattle.std.specs.Option.{option_map_or}
use Rattle.std.specs.Str.{bytes_eq}
use Rattle.qo_values.specs.declared.properties.Val.{Val}
use Rattle.qo_values.specs.declared.properties.Val.TheVariants as val
use Rattle.qo_model.specs.Board.{Board, Record, Slot, plain, child, strong, is_pending, slots_at, slot_named}
use Rattle.qo_model.specs.Depth.{by_objects}
use Rattle.qo_model.specs.Paths.{births, is_of, parent_of}

-- the value of the plain property of a name of n itself
abbrev pub plain_in : Slot → Option Val
plain_in (plain v) = Some v
plain_in s = None

abbrev pub plain_at : Board → ℕ → List ℕ → Option Val
plain_at b n name = option_and_then plain_in (slot_named b n name)

-- as a number; as a text; as a truth value
abbrev pub number_in : Val → Option ℕ
number_in (val.Uint n) = Some n
number_in v = None

abbrev pub text_in : Val → Option (List ℕ)
text_in (val.Text text) = Some text
text_in v = None

abbrev pub is_true : Val → Bool
is_true (val.Bool b) = b
is_true v = false

abbrev pub number_at : Board → ℕ → List ℕ → Option ℕ
number_at b n name = option_and_then number_in (plain_at b n name)

abbrev pub text_at : Board → ℕ → List ℕ → Option (List ℕ)
text_at b n name = option_and_then text_in (plain_at b n name)

-- the target of the strong link, and of any link, of a name
abbrev pub strong_in : Slot → Option ℕ
strong_in (strong t target) = target
strong_in s = None

abbrev pub strong_at : Board → ℕ → List ℕ → Option ℕ
strong_at b n name = option_and_then strong_in (slot_named b n name)

-- whether a device is realized; the bus that it is on; its slot there
abbrev pub is_realized : Board → ℕ → Bool
is_realized b n = option_map_or is_true (plain_at b n (codes "realized")) false

abbrev pub bus_of : Board → ℕ → Option ℕ
bus_of b n = strong_at b n (codes "parent_bus")

abbrev pub bus_slot_of : Board → ℕ → Option ℕ
bus_slot_of b n = number_at b n (codes "slot")

-- the name of the link of a bus to the kid in a slot; and of the child slot of the n-th device that has no id
abbrev pub kid_name : ℕ → List ℕ
kid_name slot = codes "child[" ++ (48 + slot) ∷ codes "]"

abbrev pub anonymous_name : ℕ → List ℕ
anonymous_name n = codes "device[" ++ decimal n ++ codes "]"

-- the kids of a bus in order of plugging: the targets of its links; and the buses of an object, in slot order
abbrev pub kids_of : Board → ℕ → List ℕ
kids_of b n = filter_map (λ (s : List ℕ × Slot). strong_in s.1) (slots_at b n)

-- the clock's slot is none of a bus
abbrev pub clock_name : List ℕ
clock_name = codes "clk"

abbrev pub bus_in : Board → List ℕ × Slot → Option ℕ
bus_in b (name, child m) = if is_of b (codes "bus") m && not (bytes_eq name clock_name) then Some m else None
bus_in b s = None

abbrev pub buses_of : Board → ℕ → List ℕ
buses_of b n = filter_map (bus_in b) (slots_at b n)

-- whether a slot of a bus has a kid; the kid there
abbrev pub kid_at : Board → ℕ → ℕ → Option ℕ
kid_at b bus slot = strong_at b bus (kid_name slot)

-- whether a device has an id
abbrev pub has_id : List ℕ → Record → Bool
has_id id r = option_map_or (λ (its : List ℕ). bytes_eq its id) r.device_id false

abbrev pub device_named : Board → List ℕ → Bool
device_named b id = list_any (has_id id) b.records

-- the clock of a device, by the name of its child slot
abbrev pub child_named : Slot → Option ℕ
child_named (child n) = Some n
child_named s = None

abbrev pub clock_of : Board → ℕ → Option ℕ
clock_of b n = option_and_then child_named (slot_named b n (codes "clk"))

-- the device whose bus this is, if it is one's
abbrev pub bridge_of : Board → ℕ → Option ℕ
bridge_of b bus = option_and_then (λ p. if is_of b (codes "device") p then Some p else None) (parent_of b bus)

-- the bus that a bridge's bus is below, if it is
abbrev pub bus_above : Board → ℕ → Option ℕ
bus_above b bus = option_and_then (bus_of b) (bridge_of b bus)

-- how many bridges stand above a bus; each turn counts, so that a round counts as deep
abbrev pub depth_turn : Board → (ℕ → ℕ) → ℕ → ℕ
depth_turn b f bus = elim (bus_above b bus) [ None ↦ 0 | Some above ↦ suc (f above) ]

unfoldable pub depth_of : Board → ℕ → ℕ
depth_of b bus = by_objects (depth_turn b) (λ _. 0) (births b) bus

-- whether a removal is pending of a bridge above a bus
abbrev pub going_turn : Board → (ℕ → Bool) → ℕ → Bool
going_turn b f bus =
    elim (bridge_of b bus) [
      | None ↦ false
      | Some d ↦ elim (is_pending b d) [ true ↦ true | false ↦ elim (bus_of b d) [ None ↦ false | Some above ↦ f above ] ]
    ]

unfoldable pub is_going : Board → ℕ → Bool
is_going b bus = by_objects (going_turn b) (λ _. false) (births b) bus

-- the device in the slots of an address, from a bus on
abbrev pub first_bus : Board → ℕ → Option ℕ
first_bus b d = elim (buses_of b d) [ [] ↦ None | m ∷ _ ↦ Some m ]

abbrev pub found_at : Board → ℕ → List ℕ → Option ℕ
found_at b bus [] = None
found_at b bus (slot ∷ []) = kid_at b bus slot
found_at b bus (slot ∷ slots) = option_and_then (λ d. option_and_then (λ m. found_at b m slots) (first_bus b d)) (kid_at b bus slot)
