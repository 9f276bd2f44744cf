-- The memory map of a board (docs/devel/memory.rst, "Types of regions", "Overlapping regions and priority"; the addresses and sizes are the profile's).
use Rattle.std.specs.Prelude.{◌≡◌, ℕ, suc, ◌+◌, ◌-◌, ◌*◌, ◌/◌, ◌%◌, ◌^◌, ◌<◌, Bool, ◌&&◌, ◌==◌, nat_eq, if◌then◌else◌, false, pos, negsuc, List, [], ◌∷◌, ◌++◌, map, flat_map, length, codes, Option, Some, None, option_map, ◌≤◌, take}
use Rattle.std.specs.List.{position_or_len, range_with_len}
use Rattle.std.specs.Option.{option_map_or}
use Rattle.qo_values.specs.Placing.{window_size, window_start}
use Rattle.qo_values.specs.Registers.{DimmRegisters, Registers, dimm}
use Rattle.qo_values.specs.declared.births.TheConstants.{MEMORY_BUS_BIRTH, ROOT_BUS_BIRTH}
use Rattle.qo_values.specs.declared.limits.TheConstants.{BUS_SLOTS, LIVE_OBJECTS_MAX}
use Rattle.qo_model.specs.Board.{Board, Record, record_of}
use Rattle.qo_model.specs.Devices.{bus_of, depth_of, first_bus, found_at, kid_at}
use Rattle.qo_model.specs.Paths.{is_of}
use Rattle.qo_model.specs.Reset.{post}
use Rattle.qo_memmap.specs.Answers.{IsNamed, new_rank}
use Rattle.qo_memmap.specs.FlatViews.{flat_from}
use Rattle.qo_memmap.specs.Regions.{Area, Target, area_at, shows_at}
use Rattle.qo_memmap.specs.declared.map.TheConstants.{MAX_RANK, MAX_REGIONS}
use Rattle.qo_memmap.specs.declared.region.Kind.TheVariants.{Container, Leaf, Alias}
use Rattle.qo_memmap.specs.declared.region.Place.{Place}
use Rattle.qo_memmap.specs.declared.span.Span.{Span}
use Rattle.qo_sound_devices.specs.SoundDevices.{SoundDevices}
use Rattle.qo_sound_claims.specs.SoundClaims.{SoundClaims}
use Rattle.qo_sound_shapes.specs.SoundShape.{SoundShape}
use Rattle.qo_layout.specs.declared.addresses.TheConstants.{BOOT_LEAF, BOOT_SIZE, DEVICE_REGISTERS, DEVICE_SIZE, LOW_SIZE, ROOT_SIZE, SLOTS_AT}
use Rattle.qo_layout.specs.declared.views.RegisterPlace.{RegisterPlace}
use Rattle.qo_layout.specs.declared.views.TheConstants.{REGISTER_SIZE}

-- Numbers of regions.

-- the objects that have a region: all that is below the two buses of the machine, each after what is below it, and each of the two after all of its own
abbrev pub mapped : Board → List ℕ
mapped b = post b ROOT_BUS_BIRTH ++ post b MEMORY_BUS_BIRTH

-- the number of an object's region; after them come the boot region, the low addresses and the root
abbrev pub number_of : Board → ℕ → ℕ
number_of b o = position_or_len (nat_eq o) (mapped b)

-- the numbers of these
abbrev pub boot_number : Board → ℕ
boot_number b = length (mapped b)

abbrev pub low_number : Board → ℕ
low_number b = length (mapped b) + 1

abbrev pub root_number : Board → ℕ
root_number b = length (mapped b) + 2

-- the region of an object as a child of another, at an address; no object's region is above another's
abbrev pub placed : Board → ℕ → ℕ → Place
placed b o at = record { region = number_of b o; at = at; priority = pos 0 }

-- Slots.

-- the bytes of a slot of a bus below so many bridges
abbrev pub slot_size : ℕ → ℕ
slot_size depth = 2 ^ (44 - 4 * depth)

-- the slots of a bus
abbrev pub slots_of_bus : List ℕ
slots_of_bus = range_with_len 0 BUS_SLOTS

-- a device at the beginning of a slot, and the bus of a bridge in the slot's second half
abbrev pub device_places : Board → ℕ → ℕ → ℕ → List Place
device_places b at size d = placed b d at ∷ option_map_or (λ m. placed b m (at + size / 2) ∷ []) (first_bus b d) []

-- what stands in a slot of a bus, each slot of so many bytes
abbrev pub slot_places : Board → ℕ → ℕ → ℕ → List Place
slot_places b bus size slot = option_map_or (device_places b (slot * size) size) (kid_at b bus slot) []

-- the region of a bus holds its slots, one behind the other; so that of a bridge's is half as large as a slot of the bus that the bridge is on
abbrev pub bus_of_slots : Board → ℕ → ℕ → Area
bus_of_slots b bus size = record { size = BUS_SLOTS * size; kind = Container; children = flat_map (slot_places b bus size) slots_of_bus }

-- Memory.

-- the address and the size of the range of a DIMM
abbrev pub dimm_in : Registers → DimmRegisters
dimm_in (dimm r) = r
dimm_in _ = record { address = 0; size = 0 }

abbrev pub range_of : Board → ℕ → DimmRegisters
range_of b d = option_map_or (λ (r : Record). dimm_in r.registers) (record_of b d) (record { address = 0; size = 0 })

-- the region of the memory bus holds the DIMMs, each at its address
abbrev pub memory_places : Board → ℕ → List Place
memory_places b slot = option_map_or (λ d. placed b d ((range_of b d).address - window_start) ∷ []) (kid_at b MEMORY_BUS_BIRTH slot) []

-- all of it, in slot order
abbrev pub memory_window : Board → Area
memory_window b = record { size = window_size; kind = Container; children = flat_map (memory_places b) slots_of_bus }

-- Regions.

-- a device is a leaf: a DIMM on the memory bus with all its bytes, any other with those of its registers
abbrev pub is_memory : Board → ℕ → Bool
is_memory b d = option_map_or (λ q. q == MEMORY_BUS_BIRTH) (bus_of b d) false && is_of b (codes "mem-dimm") d

abbrev pub device_size : Board → ℕ → ℕ
device_size b d = if is_memory b d then (range_of b d).size else DEVICE_SIZE

abbrev pub device_leaf : Board → ℕ → Area
device_leaf b d = record { size = device_size b d; kind = Leaf d; children = [] }

-- the region of an object: of the memory bus, of any other bus, and of a device
abbrev pub region_of : Board → ℕ → Area
region_of b o =
    if o == MEMORY_BUS_BIRTH then memory_window b
    else if is_of b (codes "bus") o then bus_of_slots b o (slot_size (depth_of b o))
    else device_leaf b o

-- what a board boots from: a leaf that is no object's, since no object is born as 0
abbrev pub boot_leaf : Area
boot_leaf = record { size = BOOT_SIZE; kind = Leaf BOOT_LEAF; children = [] }

-- the low addresses show the memory, from its start
abbrev pub low_alias : Board → Area
low_alias b = record { size = LOW_SIZE; kind = Alias (number_of b MEMORY_BUS_BIRTH) 0; children = [] }

-- all addresses: where nothing else shows, the low ones show
abbrev pub root_region : Board → Area
root_region b =
    record {
      size = ROOT_SIZE;
      kind = Container;
      children =
          record { region = boot_number b; at = 0; priority = pos 0 } ∷ placed b MEMORY_BUS_BIRTH window_start ∷ placed b ROOT_BUS_BIRTH SLOTS_AT
          ∷ record { region = low_number b; at = 0; priority = negsuc 0 } ∷ [];
    }

-- the regions of a board by number
abbrev pub board_map : Board → List Area
board_map b = map (region_of b) (mapped b) ++ boot_leaf ∷ low_alias b ∷ root_region b ∷ []

-- What shows.

-- the spans of all addresses: what shows there, and where in it
abbrev pub flat_view : Board → List Span
flat_view b = flat_from (shows_at (board_map b) (root_number b)) 0 ROOT_SIZE

-- Registers.

-- the register of a leaf in which an offset is
abbrev pub register_in : Target → RegisterPlace
register_in t = record { device = t.leaf; register = t.offset / REGISTER_SIZE }

-- the register at an address of a board; none where it is no multiple of a register's size, or where nothing shows
abbrev pub register_at : Board → ℕ → Option RegisterPlace
register_at b at = if at % REGISTER_SIZE == 0 then option_map register_in (shows_at (board_map b) (root_number b) at) else None

-- Addresses of slots.

-- where the device in these slots begins, from a bus below so many bridges whose slots begin at an address
abbrev pub window_at : ℕ → ℕ → List ℕ → ℕ
window_at depth base [] = base
window_at depth base (slot ∷ []) = base + slot * slot_size depth
window_at depth base (slot ∷ slots) = window_at (suc depth) (base + slot * slot_size depth + slot_size depth / 2) slots

-- on a sound board a device in the slots of the root bus shows, with each register, at the address of its slots
abbrev pub WindowLaw : Type 0
WindowLaw =
    (b : Board) → SoundDevices b → SoundShape b → (slots : List ℕ) (d r : ℕ) → found_at b ROOT_BUS_BIRTH slots ≡ Some d
    → r < DEVICE_REGISTERS → shows_at (board_map b) (root_number b) (window_at 0 SLOTS_AT slots + 4 * r) ≡ Some (record { leaf = d; offset = 4 * r })

-- a map may have a region after these ones: its numbers are in range, it names these alone, and neither are there too many nor do they stand too deep
abbrev pub MayAdd : List Area → Area → Type 0
MayAdd areas area = IsNamed areas area × (new_rank areas area ≤ MAX_RANK) × (length areas < MAX_REGIONS)

-- each region of a board may be added to those before it
abbrev pub IsMap : Board → Type 0
IsMap b = (r : ℕ) → r < length (board_map b) → MayAdd (take r (board_map b)) (area_at (board_map b) r)

-- so it is on a sound board
abbrev pub MapLaw : Type 0
MapLaw = (b : Board) → SoundDevices b → SoundShape b → SoundClaims b → length b.records ≤ LIVE_OBJECTS_MAX → IsMap b
