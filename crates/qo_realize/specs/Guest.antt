-- Where a device stands for the guest: its address (docs/PROFILE.md, guest lines).
use Rattle.std.specs.Prelude.{ℕ, zero, suc, Bool, false, ◌==◌, List, [], ◌∷◌, ◌++◌, drop, slice_get, Option, option_and_then, unwrap_or, if◌then◌else◌}
use Rattle.std.specs.Option.{option_map_or}
use Rattle.qo_values.specs.Placing.{least}
use Rattle.qo_values.specs.declared.births.TheConstants.{MEMORY_BUS_BIRTH}
use Rattle.qo_values.specs.declared.limits.TheConstants.{BUS_SLOTS}
use Rattle.qo_guest.specs.declared.addresses.Addr.{Addr}
use Rattle.qo_guest.specs.declared.addresses.Addr.TheVariants.{Slots, Mem}
use Rattle.qo_guest.specs.declared.addresses.TheConstants.{STEPS_MAX}
use Rattle.qo_model.specs.Board.{Board, Notice}
use Rattle.qo_model.specs.Devices.{bridge_of, bus_of, kid_at}

-- the slot of a bus in which a device is; 0 where it is in none
abbrev pub is_in_slot : Board → ℕ → ℕ → ℕ → Bool
is_in_slot b bus d slot = option_map_or (λ kid. kid == d) (kid_at b bus slot) false

abbrev pub slot_in : Board → ℕ → ℕ → ℕ
slot_in b bus d = unwrap_or (least (is_in_slot b bus d) 0 BUS_SLOTS) 0

abbrev pub slot_of : Board → ℕ → ℕ
slot_of b d = option_map_or (λ bus. slot_in b bus d) (bus_of b d) 0

-- the device above a device: that whose bus it is on
abbrev pub above : Board → ℕ → Option ℕ
above b d = option_and_then (bridge_of b) (bus_of b d)

-- the slots on the way to a device, at most so many, the outermost first
abbrev pub slots_to : Board → ℕ → ℕ → List ℕ
slots_to b zero d = []
slots_to b (suc levels) d = option_map_or (slots_to b levels) (above b d) [] ++ slot_of b d ∷ []

-- the address of a device
abbrev pub is_on_memory : Board → ℕ → Bool
is_on_memory b d = option_map_or (λ bus. bus == MEMORY_BUS_BIRTH) (bus_of b d) false

abbrev pub address_of : Board → ℕ → Addr
address_of b d = if is_on_memory b d then Mem (slot_of b d) else Slots (slots_to b STEPS_MAX d)

-- the notice that has waited longest, and the board without it
abbrev pub first_notice : Board → Option Notice
first_notice b = slice_get b.notices 0

abbrev pub polled : Board → Board
polled b = record b { notices = drop 1 b.notices }
