-- What a description says of a board (the profile's; the board as docs/devel/qom.rst, include/hw/qdev-core.h and docs/devel/clocks.rst have it).
use Rattle.std.specs.Prelude.{ℕ, Bool, true, false, ◌==◌, ◌&&◌, if◌then◌else◌, List, [], ◌∷◌, ◌++◌, filter_map, length, map, codes, Option, Some, None, option_map, option_and_then, unwrap_or}
use Rattle.std.specs.List.{flat_map}
use Rattle.std.specs.Option.{option_map_or}
use Rattle.qo_values.specs.Kinds.{type_name}
use Rattle.qo_values.specs.declared.births.TheConstants.{ANONYMOUS_BIRTH, OBJECTS_BIRTH, PERIPHERAL_BIRTH, SYSTEM_CLOCK_BIRTH}
use Rattle.qo_values.specs.declared.kinds.TypeId.{TypeId}
use Rattle.qo_values.specs.declared.properties.Val.{Val}
use Rattle.qo_values.specs.declared.properties.Val.TheVariants as val
use Rattle.qo_model.specs.Board.{Board, Ring, Slot, plain, strong, weak, kind_of, slot_named, slots_at, target_of}
use Rattle.qo_model.specs.Clocks.{div_of, mul_of, own_period}
use Rattle.qo_model.specs.Devices.{bus_of, bus_slot_of, clock_of}
use Rattle.qo_model.specs.Objects.{detached, Given}
use Rattle.qo_model.specs.Paths.{children_of}
use Rattle.qo_model.specs.Properties.{may_set, path_text, property_named, target_text}
use Rattle.qo_model.specs.declared.properties.Property.{Property}
use Rattle.qo_sound_devices.specs.SoundPlaces.{child_entries}
use Rattle.qo_save.specs.Description.{ClockItem, ClockNumbers, Description, DeviceItem, LinkItem, ObjectItem, RingItem}

-- whether a board has a description: each object but `/` has a parent, no removal is pending, and each device was added with an id
abbrev pub is_describable : Board → Bool
is_describable b = (length (detached b) == 0) && (length b.pending == 0) && (length (children_of b ANONYMOUS_BIRTH) == 0)

-- the numbers of the system clock
abbrev pub clock_numbers : Board → ClockNumbers
clock_numbers b = record { div = div_of b SYSTEM_CLOCK_BIRTH; mul = mul_of b SYSTEM_CLOCK_BIRTH; period = own_period b SYSTEM_CLOCK_BIRTH }

-- how the clock of a device divides and multiplies, where it does
abbrev pub factors_of : Board → ℕ → ClockItem
factors_of b c = record { div = div_of b c; mul = mul_of b c; path = path_text b c }

abbrev pub clock_item : Board → ℕ → Option ClockItem
clock_item b c = if (mul_of b c == 1) && (div_of b c == 1) then None else Some (factors_of b c)

abbrev pub clock_item_of : Board → List ℕ × ℕ → Option ClockItem
clock_item_of b e = option_and_then (clock_item b) (clock_of b e.1)

-- what may be given to a device besides its slot, and to a user's object, in byte order
abbrev pub device_given : List (List ℕ)
device_given = codes "addr" ∷ codes "chardev" ∷ codes "memdev" ∷ []

abbrev pub object_given : List (List ℕ)
object_given = codes "flag" ∷ codes "number" ∷ codes "size" ∷ codes "text" ∷ []

-- what a slot has of it: a value, or the path of a target
abbrev pub given_in : Board → Slot → Val
given_in b (plain v) = v
given_in b (strong t target) = val.Text (target_text b target)
given_in b s = val.Nothing

-- where nothing is said of it: it has no value yet, or, of a device, the empty text
abbrev pub is_nothing : Val → Bool
is_nothing val.Nothing = true
is_nothing v = false

abbrev pub is_unset : Val → Bool
is_unset (val.Text []) = true
is_unset v = is_nothing v

-- the properties of an object under some names, but for values that are left out
abbrev pub prop_under : Board → (Val → Bool) → ℕ → List ℕ → Option Given
prop_under b left_out n name =
    option_and_then (λ (s : Slot). if left_out (given_in b s) then None else Some (name, given_in b s)) (slot_named b n name)

abbrev pub props_under : Board → (Val → Bool) → List (List ℕ) → ℕ → List Given
props_under b left_out names n = filter_map (prop_under b left_out n) names

-- a device and a user's object, by its id and birth
abbrev pub device_of : Board → List ℕ × ℕ → TypeId → DeviceItem
device_of b e t =
    record {
      bus = target_text b (bus_of b e.1);
      driver = type_name t;
      id = e.0;
      props = props_under b is_unset device_given e.1;
      slot = unwrap_or (bus_slot_of b e.1) 0;
    }

abbrev pub device_item : Board → List ℕ × ℕ → Option DeviceItem
device_item b e = option_map (device_of b e) (kind_of b e.1)

abbrev pub object_of : Board → List ℕ × ℕ → TypeId → ObjectItem
object_of b e t = record { id = e.0; props = props_under b is_nothing object_given e.1; kind = type_name t }

abbrev pub object_item : Board → List ℕ × ℕ → Option ObjectItem
object_item b e = option_map (object_of b e) (kind_of b e.1)

-- a link of an object that `qom-set` writes, where it is not empty
abbrev pub is_link : Slot → Bool
is_link (strong t target) = true
is_link (weak t target) = true
is_link s = false

abbrev pub is_set : Board → ℕ → List ℕ → Bool
is_set b n name = option_map_or (λ (p : Property). may_set p.access) (option_and_then (λ (t : TypeId). property_named t name) (kind_of b n)) false

abbrev pub link_to : Board → ℕ → List ℕ → ℕ → LinkItem
link_to b n name m = record { path = path_text b n; property = name; value = path_text b m }

abbrev pub link_item : Board → ℕ → List ℕ × Slot → Option LinkItem
link_item b n s = if is_link s.1 && is_set b n s.0 then option_map (link_to b n s.0) (target_of s.1) else None

abbrev pub link_items : Board → List ℕ × ℕ → List LinkItem
link_items b e = filter_map (link_item b e.1) (slots_at b e.1)

-- a ring
abbrev pub ring_item : Ring → RingItem
ring_item r = record { id = r.id; size = r.size }

-- all of it: users' objects and devices in the order of their containers, rings in the order of adding
abbrev pub description : Board → Description
description b =
    let objects = child_entries b OBJECTS_BIRTH in
    let devices = child_entries b PERIPHERAL_BIRTH in
    record {
      clock = clock_numbers b;
      clocks = filter_map (clock_item_of b) devices;
      devices = filter_map (device_item b) devices;
      links = flat_map (link_items b) (objects ++ devices);
      objects = filter_map (object_item b) objects;
      rings = map ring_item b.rings;
    }

-- the description of a board, if it has one
unfoldable pub described : Board → Option Description
described b = if is_describable b then Some (description b) else None
