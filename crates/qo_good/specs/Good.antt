-- For a law alone. Which descriptions are good: those of which a board is rebuilt without a refusal. By their lists alone (types, ids, buses, what devices claim, clocks and
-- limits are the profile's; docs/devel/clocks.rst, "Clock multiplier and divider settings").
use Rattle.std.specs.Prelude.{◌≡◌, ◌≢◌, ◌⊎◌, ℕ, ◌+◌, ◌%◌, ◌<◌, ◌≤◌, ◌^◌, suc, ◌==◌, ◌&&◌, Bool, true, false, not, if◌then◌else◌, List, [], ◌∷◌, ◌++◌, filter_map, length, map, codes, Option, Some, None, ⊤}
use Rattle.std.specs.List.{AllByRecursion, IsDistinct, flat_map, sum_by}
use Rattle.std.specs.Option.{option_map_or}
use Rattle.std.specs.Str.{bytes_eq}
use Rattle.qo_values.specs.Ids.{is_id}
use Rattle.qo_values.specs.Kinds.{type_name}
use Rattle.qo_values.specs.Placing.{is_in_window, overlap}
use Rattle.qo_values.specs.Properties.{admits}
use Rattle.qo_values.specs.Rings.{is_ring_size}
use Rattle.qo_values.specs.declared.births.TheConstants.{OPENING_OBJECTS}
use Rattle.qo_values.specs.declared.kinds.TypeId.{TypeId}
use Rattle.qo_values.specs.declared.kinds.TypeId.TheVariants.{Clock, Container, Machine, MemBus, MemDimm, MemoryBackendRam, SlotBridge, SlotBus, SlotUart}
use Rattle.qo_values.specs.declared.limits.TheConstants.{BUS_DEPTH_MAX, BUS_SLOTS, DIMM_ALIGN, LIVE_OBJECTS_MAX}
use Rattle.qo_values.specs.declared.properties.Val.{Val}
use Rattle.qo_values.specs.declared.properties.Val.TheVariants as val
use Rattle.qo_values.specs.declared.ranges.Range.{Range}
use Rattle.qo_model.specs.Clocks.{scaled_by}
use Rattle.qo_model.specs.Objects.{Given}
use Rattle.qo_model.specs.Plug.{bus_type, number_for, objects_in, text_for}
use Rattle.qo_model.specs.Properties.{may_set, property_named}
use Rattle.qo_model.specs.RowNames.{property_name}
use Rattle.qo_model.specs.Types.{TypeInfo, is_a, slots_of, type_named}
use Rattle.qo_model.specs.declared.properties.Property.{Property}
use Rattle.qo_model.specs.declared.properties.PropertyRole.{PropertyRole}
use Rattle.qo_model.specs.declared.properties.PropertyRole.TheVariants as row
use Rattle.qo_save.specs.Described.{object_given}
use Rattle.qo_save.specs.Description.{ClockItem, ClockNumbers, Description, DeviceItem, LinkItem, ObjectItem, RingItem}
use Rattle.qo_sound_order.specs.SoundOrder.{is_abstract}

-- one of these is such
abbrev pub OneOf : {X : Type 0} → (X → Type 0) → List X → Type 0
OneOf P [] = ⊥
OneOf P (x ∷ xs) = P x ⊎ OneOf P xs

-- each is such after those before it
abbrev pub EachAfter : {X : Type 0} → (List X → X → Type 0) → List X → List X → Type 0
EachAfter P before [] = ⊤
EachAfter P before (x ∷ xs) = P before x × EachAfter P (before ++ x ∷ []) xs

-- some of these give those, in their order
pub data Give {X Y : Type 0} (R : X → Y → Type 0) : List X → List Y → Type 0 where
  none : Give R [] []
  gives : {x : X} {y : Y} {xs : List X} {ys : List Y} → R x y → Give R xs ys → Give R (x ∷ xs) (y ∷ ys)
  passed : {x : X} {xs : List X} {ys : List Y} → Give R xs ys → Give R (x ∷ xs) ys

-- the paths of a user's object and of a device by its id, and those of a device's clock and bus
abbrev pub object_path : List ℕ → List ℕ
object_path id = codes "/objects/" ++ id

abbrev pub device_path : List ℕ → List ℕ
device_path id = codes "/machine/peripheral/" ++ id

abbrev pub clock_path : List ℕ → List ℕ
clock_path id = device_path id ++ codes "/clk"

abbrev pub bus_path : List ℕ → List ℕ
bus_path id = device_path id ++ codes "/bus.0"

-- ---- the system clock and rings

-- its numbers fit their properties, the divider is not 0, and so does the period of those that go by it
pub record IsGoodClock (c : ClockNumbers) : Type 0 where
  pub divides : c.div ≢ 0
  pub div : c.div < 2 ^ 32
  pub mul : c.mul < 2 ^ 32
  pub period : c.period < 2 ^ 64
  pub fits : scaled_by c.mul c.div c.period < 2 ^ 64

-- a ring has an id, and a size that a ring may have
pub record IsGoodRing (r : RingItem) : Type 0 where
  pub id : is_id r.id ≡ true
  pub size : is_ring_size r.size ≡ true

-- ---- users' objects

-- a property takes a value
abbrev pub Takes : PropertyRole → Val → Type 0
Takes (row.Plain type begins) v = admits type v ≡ true
Takes role v = ⊥

-- each property of a type that is among some names is given, in their order, with a value that it takes
pub data AreGiven (t : TypeId) : List (List ℕ) → List Given → Type 0 where
  nothing : AreGiven t [] []
  given : {name : List ℕ} {v : Val} {names : List (List ℕ)} {props : List Given} (p : Property) → property_named t name ≡ Some p → Takes p.role v
      → AreGiven t names props → AreGiven t (name ∷ names) ((name, v) ∷ props)
  other : {name : List ℕ} {names : List (List ℕ)} {props : List Given} → property_named t name ≡ None → AreGiven t names props
      → AreGiven t (name ∷ names) props

-- a user's object is of a type that users create, has an id, and each of its values
pub record IsGoodObject (o : ObjectItem) : Type 0 where
  pub kind : TypeId
  pub its : o.kind ≡ type_name kind
  pub concrete : is_abstract kind ≡ false
  pub creatable : is_a kind (codes "user-creatable") ≡ true
  pub id : is_id o.id ≡ true
  pub props : AreGiven kind object_given o.props

-- ---- devices

-- what a description does not say of devices and buses, but what follows of it: how many bridges stand above a bus, and the period of the clocks on it, by its
-- path; and by a device's id what its clock multiplies and divides by, and the range of a DIMM
pub record Layout : Type 0 where
  pub depth : List ℕ → ℕ
  pub period : List ℕ → ℕ
  pub mul : List ℕ → ℕ
  pub div : List ℕ → ℕ
  pub range : List ℕ → Range

-- a bus of a type is the machine's, or that of a bridge before
pub data HasBus (before : List DeviceItem) (path wanted : List ℕ) : Type 0 where
  root : path ≡ codes "/machine/root.0" → wanted ≡ codes "slot-bus" → HasBus before path wanted
  memory : path ≡ codes "/machine/mem.0" → wanted ≡ codes "mem-bus" → HasBus before path wanted
  bridges : OneOf (λ (y : DeviceItem). (y.driver ≡ type_name SlotBridge) × (path ≡ bus_path y.id)) before → wanted ≡ codes "slot-bus"
      → HasBus before path wanted

-- a UART names no ring, or one that is there and that none before names
pub data NamesRing (d : Description) (before : List DeviceItem) (x : DeviceItem) : Type 0 where
  no_ring : x.props ≡ [] → NamesRing d before x
  ring : (id : List ℕ) → x.props ≡ (codes "chardev", val.Text id) ∷ [] → OneOf (λ (r : RingItem). r.id ≡ id) d.rings
      → AllByRecursion (λ (y : DeviceItem). text_for y.props (codes "chardev") ≢ id) before → NamesRing d before x

-- a memory backend of an id and so long
pub record IsMemory (named : List ℕ) (long : ℕ) (o : ObjectItem) : Type 0 where
  pub id : o.id ≡ named
  pub kind : o.kind ≡ type_name MemoryBackendRam
  pub size : number_for o.props (codes "size") ≡ Some long

-- a DIMM is as long as a memory backend that none before is on, and its range lies in the window, apart from those before
pub record HasRange (d : Description) (l : Layout) (before : List DeviceItem) (x : DeviceItem) : Type 0 where
  pub backend : List ℕ
  pub props : x.props ≡ (codes "addr", val.Uint (l.range x.id).at) ∷ (codes "memdev", val.Text (object_path backend)) ∷ []
  pub memory : OneOf (IsMemory backend (l.range x.id).size) d.objects
  pub alone : AllByRecursion (λ (y : DeviceItem). text_for y.props (codes "memdev") ≢ object_path backend) before
  pub aligned : (l.range x.id).at % DIMM_ALIGN ≡ 0
  pub window : is_in_window (l.range x.id) ≡ true
  pub apart : AllByRecursion (λ (y : DeviceItem). y.driver ≡ type_name MemDimm → overlap (l.range x.id) (l.range y.id) ≡ false) before

-- what is given to a device of a type besides its slot
abbrev pub IsGiven : Description → Layout → List DeviceItem → DeviceItem → TypeId → Type 0
IsGiven d l before x SlotUart = NamesRing d before x
IsGiven d l before x MemDimm = HasRange d l before x
IsGiven d l before x kind = x.props ≡ []

-- the numbers of a device's clock fit their properties, its divider is not 0, and so does the period of those that go by it
pub record HasClock (l : Layout) (x : DeviceItem) : Type 0 where
  pub divides : l.div x.id ≢ 0
  pub div : l.div x.id < 2 ^ 32
  pub mul : l.mul x.id < 2 ^ 32
  pub fits : scaled_by (l.mul x.id) (l.div x.id) (l.period x.bus) < 2 ^ 64

-- a device after those before it
pub record IsGoodDevice (d : Description) (l : Layout) (before : List DeviceItem) (x : DeviceItem) : Type 0 where
  pub kind : TypeId
  pub driver : x.driver ≡ type_name kind
  pub concrete : is_abstract kind ≡ false
  pub device : is_a kind (codes "device") ≡ true
  pub id : is_id x.id ≡ true
  -- it is in a slot of a bus of its type that none before is in, and a bridge is not too deep
  pub bus : HasBus before x.bus (bus_type kind)
  pub slot : x.slot < BUS_SLOTS
  pub free : AllByRecursion (λ (y : DeviceItem). y.bus ≡ x.bus → y.slot ≢ x.slot) before
  pub shallow : kind ≡ SlotBridge → l.depth x.bus < BUS_DEPTH_MAX
  -- what is given to it, and its clock
  pub props : IsGiven d l before x kind
  pub clock : is_a kind (codes "slot-device") ≡ true → HasClock l x

-- buses below a bridge
pub record IsBridgeLaid (l : Layout) (x : DeviceItem) : Type 0 where
  pub depth : l.depth (bus_path x.id) ≡ suc (l.depth x.bus)
  pub period : l.period (bus_path x.id) ≡ scaled_by (l.mul x.id) (l.div x.id) (l.period x.bus)

-- whether devices of a type's name have a clock; what is said of it, where it multiplies or divides
abbrev pub has_clock : List ℕ → Bool
has_clock driver = option_map_or (λ (r : TypeInfo). is_a r.id (codes "slot-device")) (type_named driver) false

abbrev pub factors : Layout → DeviceItem → ClockItem
factors l x = record { div = l.div x.id; mul = l.mul x.id; path = clock_path x.id }

abbrev pub clock_said : Layout → DeviceItem → Option ClockItem
clock_said l x = if has_clock x.driver && not ((l.mul x.id == 1) && (l.div x.id == 1)) then Some (factors l x) else None

-- the layout is that of a description, and each of its devices is good
pub record IsLaidOut (d : Description) (l : Layout) : Type 0 where
  pub root_depth : l.depth (codes "/machine/root.0") ≡ 0
  pub root_period : l.period (codes "/machine/root.0") ≡ scaled_by d.clock.mul d.clock.div d.clock.period
  pub bridges : AllByRecursion (λ (x : DeviceItem). x.driver ≡ type_name SlotBridge → IsBridgeLaid l x) d.devices
  pub devices : EachAfter (IsGoodDevice d l) [] d.devices
  pub clocks : d.clocks ≡ filter_map (clock_said l) d.devices

-- ---- links

-- the objects that every machine begins with, by path and type
abbrev pub first_objects : List (List ℕ × TypeId)
first_objects =
    (codes "/", Container)
    ∷ (codes "/machine", Machine)
    ∷ (codes "/machine/peripheral", Container)
    ∷ (codes "/machine/peripheral-anon", Container)
    ∷ (codes "/machine/sysclk", Clock)
    ∷ (codes "/machine/root.0", SlotBus)
    ∷ (codes "/machine/mem.0", MemBus)
    ∷ (codes "/objects", Container)
    ∷ []

-- an object of a type is at a path
pub data IsThere (d : Description) (path : List ℕ) (t : TypeId) : Type 0 where
  first : OneOf (λ (o : List ℕ × TypeId). (path ≡ o.0) × (t ≡ o.1)) first_objects → IsThere d path t
  object : OneOf (λ (o : ObjectItem). (path ≡ object_path o.id) × (o.kind ≡ type_name t)) d.objects → IsThere d path t
  device : OneOf (λ (x : DeviceItem). (path ≡ device_path x.id) × (x.driver ≡ type_name t)) d.devices → IsThere d path t
  clock : OneOf (λ (x : DeviceItem). (path ≡ clock_path x.id) × (has_clock x.driver ≡ true)) d.devices → t ≡ Clock → IsThere d path t
  bus : OneOf (λ (x : DeviceItem). (path ≡ bus_path x.id) × (x.driver ≡ type_name SlotBridge)) d.devices → t ≡ SlotBus → IsThere d path t

-- users' objects, and devices, by path and type's name; their properties, each by the object's path
abbrev pub owners : Description → List (List ℕ × List ℕ)
owners d =
    map (λ (o : ObjectItem). (object_path o.id, o.kind)) d.objects ++ map (λ (x : DeviceItem). (device_path x.id, x.driver)) d.devices

abbrev pub rows_of : List ℕ × List ℕ → List (List ℕ × Property)
rows_of o = map (λ (p : Property). (o.0, p)) (option_map_or (λ (r : TypeInfo). slots_of r.id) (type_named o.1) [])

abbrev pub rows : Description → List (List ℕ × Property)
rows d = flat_map rows_of (owners d)

-- a link of the property at a path that `qom-set` writes, to an object of the property's type
pub record IsLinkOf (d : Description) (at : List ℕ × Property) (link : LinkItem) : Type 0 where
  pub path : link.path ≡ at.0
  pub property : link.property ≡ property_name at.1.name
  pub set : may_set at.1.access ≡ true
  pub target : TypeId
  pub holds : Bool
  pub role : at.1.role ≡ row.Link target holds
  pub kind : TypeId
  pub there : IsThere d link.value kind
  pub fits : is_a kind (type_name target) ≡ true

-- ---- all of it

-- ids are of one thing each; a container has a property `type`
abbrev pub AreIds : List (List ℕ) → Type 0
AreIds ids = IsDistinct bytes_eq (codes "type" ∷ ids)

-- how many objects a device is
abbrev pub objects_of : DeviceItem → ℕ
objects_of x = option_map_or (λ (r : TypeInfo). objects_in r.id) (type_named x.driver) 0

-- a description is good
pub record Good (d : Description) : Type 0 where
  pub clock : IsGoodClock d.clock
  pub rings : AllByRecursion IsGoodRing d.rings
  pub ring_ids : IsDistinct bytes_eq (map (λ (r : RingItem). r.id) d.rings)
  pub objects : AllByRecursion IsGoodObject d.objects
  pub object_ids : AreIds (map (λ (o : ObjectItem). o.id) d.objects)
  pub device_ids : AreIds (map (λ (x : DeviceItem). x.id) d.devices)
  pub layout : Layout
  pub laid : IsLaidOut d layout
  -- some of the properties of its objects and devices are links, in order
  pub links : Give (IsLinkOf d) (rows d) d.links
  -- there are no more objects than may live at once
  pub room : OPENING_OBJECTS + length d.objects + sum_by objects_of d.devices ≤ LIVE_OBJECTS_MAX
