-- For proofs alone. What is read of a clock on the heap: its numbers, its source, and the clock of a device.
use Rattle.std.specs.Prelude.{ℕ, false, List, codes, find, Option, None, Some, option_map, unwrap_or}
use Rattle.std.specs.Option.{option_and_then}
use Rattle.std.specs.Str.{bytes_eq}
use Rattle.qo_values.specs.declared.properties.Val.TheVariants.{Uint}
use Rattle.qo_slots.specs.declared.keys.Key.{Key}
use Rattle.qo_object.specs.declared.slots.Slot.{Slot}
use Rattle.qo_object.specs.declared.slots.Slot.TheVariants.{Plain, Child, Link}
use Rattle.qo_heap.specs.Objects.{Objects, slots_of}

-- what stands in the slot of a name of an object
abbrev pub slot_on : Objects → ℕ → List ℕ → Option Slot
slot_on v n name = option_map (λ (s : List ℕ × Slot). s.1) (find (λ (s : List ℕ × Slot). bytes_eq name s.0) (slots_of v n))

-- the number in a slot, the target of a weak link, and the child in a slot
abbrev pub number_in_slot : Slot → Option ℕ
number_in_slot (Plain (Uint n)) = Some n
number_in_slot s = None

abbrev pub weak_target : Slot → Option Key
weak_target (Link ty false target) = target
weak_target s = None

abbrev pub child_in : Slot → Option Key
child_in (Child key) = Some key
child_in s = None

abbrev pub number_on : Objects → ℕ → List ℕ → Option ℕ
number_on v n name = option_and_then number_in_slot (slot_on v n name)

-- the period of a clock itself, its mul and its div
abbrev pub own_on : Objects → ℕ → ℕ
own_on v n = unwrap_or (number_on v n (codes "period")) 0

abbrev pub mul_on : Objects → ℕ → ℕ
mul_on v n = unwrap_or (number_on v n (codes "mul")) 1

abbrev pub div_on : Objects → ℕ → ℕ
div_on v n = unwrap_or (number_on v n (codes "div")) 1

-- the clock that a clock goes by, and that of a device
abbrev pub source_on : Objects → ℕ → Option Key
source_on v n = option_and_then weak_target (slot_on v n (codes "source"))

abbrev pub clock_on : Objects → ℕ → Option Key
clock_on v n = option_and_then child_in (slot_on v n (codes "clk"))
