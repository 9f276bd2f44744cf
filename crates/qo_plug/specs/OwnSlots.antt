-- For proofs alone. The slots of an object that are its own.
use Rattle.std.specs.Prelude.{ℕ, Bool, true, false, List, filter}
use Rattle.qo_object.specs.declared.slots.Slot.{Slot}
use Rattle.qo_object.specs.declared.slots.Slot.TheVariants.{Plain, Link}
use Rattle.qo_object.specs.Slots.{Named}
use Rattle.qo_heap.specs.Objects.{Objects, slots_of}

-- the slots of an object that are its own: plain ones and links, and neither children nor aliases
abbrev pub is_own : Slot → Bool
is_own (Plain v) = true
is_own (Link ty strong target) = true
is_own s = false

abbrev pub own_slots : List Named → List Named
own_slots slots = filter (λ (s : Named). is_own s.1) slots

abbrev pub own_slots_of : Objects → ℕ → List Named
own_slots_of v n = own_slots (slots_of v n)
