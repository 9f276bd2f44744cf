-- The opening board: the eight objects that every machine begins with (the profile's; compare docs/devel/qom.rst on `/machine` and `/objects`).
use Rattle.std.specs.Prelude.{ℕ, true, false, if◌then◌else◌, List, [], ◌∷◌, ◌++◌, map, filter_map, codes, Option, Some, None, option_map}
use Rattle.std.specs.Str.{bytes_eq}
use Rattle.qo_values.specs.Kinds.{type_name}
use Rattle.qo_values.specs.Registers.{fresh_registers}
use Rattle.qo_values.specs.declared.births.TheConstants.{ROOT_BIRTH, MACHINE_BIRTH, PERIPHERAL_BIRTH, ANONYMOUS_BIRTH, SYSTEM_CLOCK_BIRTH, ROOT_BUS_BIRTH, MEMORY_BUS_BIRTH, OBJECTS_BIRTH, OPENING_OBJECTS}
use Rattle.qo_values.specs.declared.kinds.TypeId.{TypeId}
use Rattle.qo_values.specs.declared.kinds.TypeId.TheVariants.{Container, Machine, Clock, SlotBus, MemBus}
use Rattle.qo_values.specs.declared.limits.TheConstants.{SYSTEM_PERIOD}
use Rattle.qo_values.specs.declared.properties.Val.{Val}
use Rattle.qo_values.specs.declared.properties.Val.TheVariants as val
use Rattle.qo_model.specs.Board.{Board, Record, Slot}
use Rattle.qo_model.specs.Types.{slots_of}
use Rattle.qo_model.specs.RowNames.{property_name}
use Rattle.qo_model.specs.declared.properties.Property.{Property}
use Rattle.qo_model.specs.declared.properties.PropertyRole.{PropertyRole}
use Rattle.qo_model.specs.declared.properties.PropertyRole.TheVariants as row
use Rattle.qo_model.specs.declared.properties.First.{First}
use Rattle.qo_model.specs.declared.properties.First.TheVariants as first

-- what a plain property of an object of a type holds at first
abbrev pub first_value : TypeId → First → Val
first_value t first.TypeName = val.Text (type_name t)
first_value t first.Nothing = val.Nothing
first_value t (first.Bool b) = val.Bool b
first_value t (first.Uint n) = val.Uint n
first_value t first.NoText = val.Text []

-- the slot that a property of a name begins as; `further` has the births of the objects that are made as children, by name, as far as they are made
abbrev pub first_slot : (List ℕ → Option ℕ) → TypeId → List ℕ → PropertyRole → Option Slot
first_slot further t name (row.Plain type first) = Some (Slot.plain (first_value t first))
first_slot further t name (row.Link target true) = Some (Slot.strong target None)
first_slot further t name (row.Link target false) = Some (Slot.weak target None)
first_slot further t name (row.Child type) = option_map Slot.child (further name)
first_slot further t name (row.Alias owner of) = option_map (λ n. Slot.alias n (property_name of)) (further (property_name owner))

-- the slots of a new object with these further objects, in order
abbrev pub slots_with : (List ℕ → Option ℕ) → TypeId → List (List ℕ × Slot)
slots_with further t =
    filter_map (λ (p : Property). option_map (λ (s : Slot). (property_name p.name, s)) (first_slot further t (property_name p.name) p.role)) (slots_of t)

-- the slots of a new object without further objects: its plain properties and its links
abbrev pub fresh_slots : TypeId → List (List ℕ × Slot)
fresh_slots t = slots_with (λ _. None) t

-- an object as it is made
abbrev pub fresh_record : ℕ → TypeId → Record
fresh_record birth t = record { birth = birth; kind = t; slots = fresh_slots t; registers = fresh_registers t; device_id = None; kept_path = None }

-- an object with a child more
abbrev pub with_child : List ℕ → ℕ → Record → Record
with_child name n r = record r { slots = r.slots ++ (name, Slot.child n) ∷ [] }

-- an object whose plain property of a name holds a value
abbrev pub with_value : List ℕ → Val → Record → Record
with_value name v r = record r { slots = map (λ (s : List ℕ × Slot). if bytes_eq s.0 name then (name, Slot.plain v) else s) r.slots }

-- the eight objects; the system clock has its period (docs/devel/clocks.rst, "The clock state")
abbrev pub opening_records : List Record
opening_records =
    with_child (codes "objects") OBJECTS_BIRTH (with_child (codes "machine") MACHINE_BIRTH (fresh_record ROOT_BIRTH Container))
    ∷ with_child (codes "mem.0") MEMORY_BUS_BIRTH
    (with_child (codes "root.0") ROOT_BUS_BIRTH
    (with_child (codes "sysclk") SYSTEM_CLOCK_BIRTH
    (with_child (codes "peripheral-anon") ANONYMOUS_BIRTH
    (with_child (codes "peripheral") PERIPHERAL_BIRTH (fresh_record MACHINE_BIRTH Machine)))))
    ∷ fresh_record PERIPHERAL_BIRTH Container
    ∷ fresh_record ANONYMOUS_BIRTH Container
    ∷ with_value (codes "period") (val.Uint SYSTEM_PERIOD) (fresh_record SYSTEM_CLOCK_BIRTH Clock)
    ∷ fresh_record ROOT_BUS_BIRTH SlotBus
    ∷ fresh_record MEMORY_BUS_BIRTH MemBus
    ∷ fresh_record OBJECTS_BIRTH Container
    ∷ []

-- the board as a machine begins: it runs, at time 0, and only `/` is pinned
unfoldable pub opening_board : Board
opening_board =
    record {
      records = opening_records;
      born = OPENING_OBJECTS;
      anonymous = 0;
      now = 0;
      running = true;
      holds = [];
      pending = [];
      notices = [];
      rings = [];
      pins = ROOT_BIRTH ∷ [];
      notes = [];
      events = [];
    }
