-- For a law alone. What shows of a board of a description: the sights of its objects, from the lists of the description alone (docs/devel/qom.rst, "The QEMU Object Model":
-- canonical paths, child and link; which objects and slots there are is the profile's).
use Rattle.std.specs.Prelude.{ℕ, ◌&&◌, true, if◌then◌else◌, List, [], ◌∷◌, ◌++◌, find, filter_map, map, codes, Option, Some, None}
use Rattle.std.specs.List.{flat_map}
use Rattle.std.specs.Option.{option_map_or}
use Rattle.std.specs.Str.{bytes_eq}
use Rattle.qo_values.specs.Kinds.{type_name}
use Rattle.qo_values.specs.declared.kinds.TypeId.{TypeId}
use Rattle.qo_values.specs.declared.kinds.TypeId.TheVariants.{Clock, Container, Machine, MemBus, SlotBus}
use Rattle.qo_values.specs.declared.properties.Val.{Val}
use Rattle.qo_values.specs.declared.properties.Val.TheVariants as val
use Rattle.qo_model.specs.Devices.{kid_name}
use Rattle.qo_model.specs.Objects.{Given}
use Rattle.qo_model.specs.Plug.{given_for, text_for}
use Rattle.qo_model.specs.RowNames.{property_name}
use Rattle.qo_model.specs.Types.{TypeInfo, slots_of, type_named}
use Rattle.qo_model.specs.declared.properties.Property.{Property}
use Rattle.qo_model.specs.declared.properties.PropertyName.{PropertyName}
use Rattle.qo_model.specs.declared.properties.PropertyName.TheVariants as prop
use Rattle.qo_save.specs.Description.{ClockItem, Description, DeviceItem, LinkItem, ObjectItem}
use Rattle.qo_save.specs.Like.{names, other, Shown, Sight, value}
use Rattle.qo_good.specs.Good.{bus_path, clock_path, device_path, object_path}

-- an object of a type whose properties show so, and what shows behind them
abbrev pub seen_as : List ℕ → TypeId → (PropertyName → Shown) → List (List ℕ × Shown) → Sight
seen_as path t shows behind =
    record { path = path; kind = Some t; slots = map (λ (p : Property). (property_name p.name, shows p.name)) (slots_of t) ++ behind }

-- where the link of a name leads, at a path: nowhere, where nothing is said of it
abbrev pub link_said : Description → List ℕ → List ℕ → List ℕ
link_said d path name =
    option_map_or (λ (l : LinkItem). l.value) (find (λ (l : LinkItem). bytes_eq l.path path && bytes_eq l.property name) d.links) []

-- a value that was given under a name
abbrev pub value_said : List Given → List ℕ → Val
value_said props name = option_map_or (λ (v : Val). v) (given_for props name) val.Nothing

-- by what a clock multiplies and divides, where it is said, else by 1
abbrev pub clock_said : Description → List ℕ → (ClockItem → ℕ) → ℕ
clock_said d path part = option_map_or part (find (λ (c : ClockItem). bytes_eq c.path path) d.clocks) 1

-- the clock that the clocks on a bus go by: that of its bridge, or the system's
abbrev pub source_said : Description → List ℕ → List ℕ
source_said d bus =
    option_map_or (λ (y : DeviceItem). clock_path y.id) (find (λ (y : DeviceItem). bytes_eq bus (bus_path y.id)) d.devices) (codes "/machine/sysclk")

-- the properties of a container, the machine and a bus
abbrev pub plain_shows : TypeId → PropertyName → Shown
plain_shows t prop.Type = value (val.Text (type_name t))
plain_shows t name = other

-- of a clock with these numbers
abbrev pub clock_shows : ℕ → ℕ → ℕ → List ℕ → PropertyName → Shown
clock_shows period mul div source prop.Type = value (val.Text (type_name Clock))
clock_shows period mul div source prop.Period = value (val.Uint period)
clock_shows period mul div source prop.Mul = value (val.Uint mul)
clock_shows period mul div source prop.Div = value (val.Uint div)
clock_shows period mul div source prop.Source = names source
clock_shows period mul div source name = other

-- of a device
abbrev pub device_shows : Description → DeviceItem → PropertyName → Shown
device_shows d x prop.Type = value (val.Text x.driver)
device_shows d x prop.Realized = value (val.Bool true)
device_shows d x prop.ParentBus = names x.bus
device_shows d x prop.Slot = value (val.Uint x.slot)
device_shows d x prop.Peer = names (link_said d (device_path x.id) (codes "peer"))
device_shows d x prop.Watch = names (link_said d (device_path x.id) (codes "watch"))
device_shows d x prop.Clk = names (clock_path x.id)
device_shows d x prop.Chardev = value (val.Text (text_for x.props (codes "chardev")))
device_shows d x prop.Bus0 = names (bus_path x.id)
device_shows d x prop.Memdev = names (text_for x.props (codes "memdev"))
device_shows d x prop.Addr = value (value_said x.props (codes "addr"))
device_shows d x name = other

-- of a user's object
abbrev pub object_shows : Description → ObjectItem → PropertyName → Shown
object_shows d o prop.Type = value (val.Text o.kind)
object_shows d o prop.Next = names (link_said d (object_path o.id) (codes "next"))
object_shows d o prop.Seen = names (link_said d (object_path o.id) (codes "seen"))
object_shows d o name = value (value_said o.props (property_name name))

-- the kids on a bus, in the order of devices
abbrev pub kid_said : List ℕ → DeviceItem → Option (List ℕ × Shown)
kid_said bus x = if bytes_eq x.bus bus then Some (kid_name x.slot, names (device_path x.id)) else None

abbrev pub kids_said : Description → List ℕ → List (List ℕ × Shown)
kids_said d bus = filter_map (kid_said bus) d.devices

-- a device with its parts; a part is a clock or a bus
abbrev pub part_seen : Description → DeviceItem → PropertyName → Option Sight
part_seen d x prop.Clk =
    Some (seen_as (clock_path x.id) Clock
    (clock_shows 0 (clock_said d (clock_path x.id) (λ c. c.mul)) (clock_said d (clock_path x.id) (λ c. c.div)) (source_said d x.bus)) [])
part_seen d x prop.Bus0 = Some (seen_as (bus_path x.id) SlotBus (plain_shows SlotBus) (kids_said d (bus_path x.id)))
part_seen d x name = None

abbrev pub device_seen : Description → DeviceItem → List Sight
device_seen d x =
    option_map_or (λ (r : TypeInfo). seen_as (device_path x.id) r.id (device_shows d x) [] ∷ filter_map (λ (p : Property). part_seen d x p.name) (slots_of r.id))
    (type_named x.driver) []

abbrev pub object_seen : Description → ObjectItem → List Sight
object_seen d o = option_map_or (λ (r : TypeInfo). seen_as (object_path o.id) r.id (object_shows d o) [] ∷ []) (type_named o.kind) []

-- a container with children at these paths, under these names
abbrev pub shelf_seen : List ℕ → TypeId → List (List ℕ × List ℕ) → Sight
shelf_seen path t children = seen_as path t (plain_shows t) (map (λ (c : List ℕ × List ℕ). (c.0, names c.1)) children)

-- all of them, each before those below it
abbrev pub root_children : List (List ℕ × List ℕ)
root_children = (codes "machine", codes "/machine") ∷ (codes "objects", codes "/objects") ∷ []

abbrev pub machine_children : List (List ℕ × List ℕ)
machine_children =
    (codes "peripheral", codes "/machine/peripheral")
    ∷ (codes "peripheral-anon", codes "/machine/peripheral-anon")
    ∷ (codes "sysclk", codes "/machine/sysclk")
    ∷ (codes "root.0", codes "/machine/root.0")
    ∷ (codes "mem.0", codes "/machine/mem.0")
    ∷ []

abbrev pub seen : Description → List Sight
seen d =
    shelf_seen (codes "/") Container root_children
    ∷ shelf_seen (codes "/machine") Machine machine_children
    ∷ shelf_seen (codes "/machine/peripheral") Container (map (λ (x : DeviceItem). (x.id, device_path x.id)) d.devices)
    ∷ flat_map (device_seen d) d.devices
    ++ shelf_seen (codes "/machine/peripheral-anon") Container []
    ∷ seen_as (codes "/machine/sysclk") Clock (clock_shows d.clock.period d.clock.mul d.clock.div []) []
    ∷ seen_as (codes "/machine/root.0") SlotBus (plain_shows SlotBus) (kids_said d (codes "/machine/root.0"))
    ∷ seen_as (codes "/machine/mem.0") MemBus (plain_shows MemBus) (kids_said d (codes "/machine/mem.0"))
    ∷ shelf_seen (codes "/objects") Container (map (λ (o : ObjectItem). (o.id, object_path o.id)) d.objects)
    ∷ flat_map (object_seen d) d.objects
