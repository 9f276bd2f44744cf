-- The types of objects and their properties (docs/devel/qom.rst, "The QEMU Object Model", "Class Initialization", "Interfaces"; the sixteen types are the
-- profile's).
use Rattle.std.specs.Prelude.{ℕ, ◌-◌, ◌^◌, zero, suc, Bool, true, false, ◌||◌, if◌then◌else◌, List, [], ◌∷◌, ◌++◌, length, reverse, filter, find, map, flat_map, codes, pos, negsuc, Option, Some, None}
use Rattle.std.specs.List.{list_any, join_with_byte}
use Rattle.std.specs.Option.{option_and_then, option_map_or}
use Rattle.std.specs.Str.{bytes_eq}
use Rattle.qo_values.specs.Kinds.{type_name}
use Rattle.qo_values.specs.declared.kinds.TypeId.{TypeId}
use Rattle.qo_values.specs.declared.kinds.TypeId.TheVariants.{Object, Container, Machine, Device, SlotDevice, SlotUart, SlotTimer, SlotBridge, MemDimm, Bus, SlotBus, MemBus, Clock, MemoryBackend, MemoryBackendRam, Tag}
use Rattle.qo_values.specs.declared.limits.TheConstants.{BACKEND_SIZE_AT_FIRST, BACKEND_SIZE_MAX, DIMM_ALIGN}
use Rattle.qo_values.specs.declared.properties.PropType.{PropType}
use Rattle.qo_values.specs.declared.properties.PropType.TheVariants as ty
use Rattle.qo_model.specs.RowNames.{interface_name}
use Rattle.qo_model.specs.declared.properties.First.TheVariants as first
use Rattle.qo_model.specs.declared.properties.Interface.{Interface}
use Rattle.qo_model.specs.declared.properties.Interface.TheVariants.{HotplugHandler, Resettable, UserCreatable}
use Rattle.qo_model.specs.declared.properties.Access.{Access}
use Rattle.qo_model.specs.declared.properties.Access.TheVariants.{Never, Add, Both, Set}
use Rattle.qo_model.specs.declared.properties.Property.{Property}
use Rattle.qo_model.specs.declared.properties.PropertyName.{PropertyName}
use Rattle.qo_model.specs.declared.properties.PropertyName.TheVariants as prop
use Rattle.qo_model.specs.declared.properties.PropertyRole.{PropertyRole}
use Rattle.qo_model.specs.declared.properties.PropertyRole.TheVariants.{Plain, Child, Link, Alias}

-- a row of types: the type that it derives from, whether it has no objects of its own, and the interfaces and the properties that it adds to those of its
-- parent
pub record TypeInfo : Type 0 where
  pub id : TypeId
  pub parent : Option TypeId
  pub is_abstract : Bool
  pub interfaces : List Interface
  pub properties : List Property

-- any number of 64 bits
abbrev pub uint64 : PropType
uint64 = ty.Uint 0 (2 ^ 64 - 1) 1

-- a number of 64 bits that is a multiple of a step
abbrev pub multiple_of : ℕ → PropType
multiple_of step = ty.Uint 0 (2 ^ 64 - 1) step

-- a number from 0 to `hi`
abbrev pub up_to : ℕ → PropType
up_to hi = ty.Uint 0 hi 1

-- any signed number of 64 bits
abbrev pub int64 : PropType
int64 = ty.Int (negsuc (2 ^ 63 - 1)) (pos (2 ^ 63 - 1))

-- a row of properties with its parts in order
abbrev pub property : PropertyName → PropertyRole → Access → Property
property name kind access = record { name = name; role = kind; access = access }

-- the sixteen types
unfoldable pub types : List TypeInfo
types =
    record { id = Object; parent = None; is_abstract = true; interfaces = []; properties = property prop.Type (Plain ty.Text first.TypeName) Never ∷ [] }
    ∷ record { id = Container; parent = Some Object; is_abstract = false; interfaces = []; properties = [] }
    ∷ record { id = Machine; parent = Some Object; is_abstract = false; interfaces = HotplugHandler ∷ Resettable ∷ []; properties = [] }
    ∷ record {
      id = Device;
      parent = Some Object;
      is_abstract = true;
      interfaces = Resettable ∷ [];
      properties =
          property prop.Realized (Plain ty.Bool (first.Bool false)) Never
          ∷ property prop.ParentBus (Link Bus true) Never
          ∷ property prop.Slot (Plain (up_to 255) first.Nothing) Add
          ∷ property prop.Peer (Link Device true) Both
          ∷ property prop.Watch (Link Device false) Both
          ∷ [];
    }
    ∷ record {
      id = SlotDevice;
      parent = Some Device;
      is_abstract = true;
      interfaces = [];
      properties =
          property prop.Clk (Child Clock) Never
          ∷ property prop.ClockPeriod (Alias prop.Clk prop.Period) Set
          ∷ [];
    }
    ∷ record {
      id = SlotUart;
      parent = Some SlotDevice;
      is_abstract = false;
      interfaces = [];
      properties = property prop.Chardev (Plain ty.Text first.NoText) Add ∷ [];
    }
    ∷ record { id = SlotTimer; parent = Some SlotDevice; is_abstract = false; interfaces = []; properties = [] }
    ∷ record {
      id = SlotBridge;
      parent = Some SlotDevice;
      is_abstract = false;
      interfaces = HotplugHandler ∷ [];
      properties = property prop.Bus0 (Child SlotBus) Never ∷ [];
    }
    ∷ record {
      id = MemDimm;
      parent = Some Device;
      is_abstract = false;
      interfaces = [];
      properties =
          property prop.Memdev (Link MemoryBackend true) Add
          ∷ property prop.Addr (Plain (multiple_of DIMM_ALIGN) first.Nothing) Add
          ∷ [];
    }
    ∷ record { id = Bus; parent = Some Object; is_abstract = true; interfaces = Resettable ∷ []; properties = [] }
    ∷ record { id = SlotBus; parent = Some Bus; is_abstract = false; interfaces = []; properties = [] }
    ∷ record { id = MemBus; parent = Some Bus; is_abstract = false; interfaces = []; properties = [] }
    ∷ record {
      id = Clock;
      parent = Some Object;
      is_abstract = false;
      interfaces = [];
      properties =
          property prop.Period (Plain uint64 (first.Uint 0)) Set
          ∷ property prop.Mul (Plain (up_to 4294967295) (first.Uint 1)) Set
          ∷ property prop.Div (Plain (up_to 4294967295) (first.Uint 1)) Set
          ∷ property prop.Source (Link Clock false) Never
          ∷ [];
    }
    ∷ record {
      id = MemoryBackend;
      parent = Some Object;
      is_abstract = true;
      interfaces = UserCreatable ∷ [];
      properties = property prop.Size (Plain (ty.Uint DIMM_ALIGN BACKEND_SIZE_MAX DIMM_ALIGN) (first.Uint BACKEND_SIZE_AT_FIRST)) Add ∷ [];
    }
    ∷ record { id = MemoryBackendRam; parent = Some MemoryBackend; is_abstract = false; interfaces = []; properties = [] }
    ∷ record {
      id = Tag;
      parent = Some Object;
      is_abstract = false;
      interfaces = UserCreatable ∷ [];
      properties =
          property prop.Text (Plain ty.Text first.NoText) Both
          ∷ property prop.Number (Plain int64 (first.Uint 0)) Both
          ∷ property prop.Flag (Plain ty.Bool (first.Bool false)) Both
          ∷ property prop.Next (Link Object true) Both
          ∷ property prop.Seen (Link Object false) Both
          ∷ [];
    }
    ∷ []

-- the row of the type of a name
abbrev pub type_named : List ℕ → Option TypeInfo
type_named name = find (λ r. bytes_eq (type_name r.id) name) types

-- the row of a type
abbrev pub info_of : TypeId → Option TypeInfo
info_of t = type_named (type_name t)

-- the type that a type derives from
abbrev pub parent_of : TypeId → Option TypeId
parent_of t = option_and_then (λ (r : TypeInfo). r.parent) (info_of t)

-- a type, its parent and so on, at most so many
abbrev pub chain_within : ℕ → TypeId → List TypeId
chain_within zero t = []
chain_within (suc steps) t = t ∷ option_map_or (chain_within steps) (parent_of t) []

-- a type, its parent and so on to `object`
abbrev pub chain : TypeId → List TypeId
chain t = chain_within (length types) t

-- the interfaces in the row of a type
abbrev pub interfaces_of : TypeId → List Interface
interfaces_of t = option_map_or (λ (r : TypeInfo). r.interfaces) (info_of t) []

-- the properties in the row of a type
abbrev pub properties_of : TypeId → List Property
properties_of t = option_map_or (λ (r : TypeInfo). r.properties) (info_of t) []

-- whether a name is a type's own, or one of its interfaces
abbrev pub answers_to : List ℕ → TypeId → Bool
answers_to name t = bytes_eq (type_name t) name || list_any (λ i. bytes_eq name (interface_name i)) (interfaces_of t)

-- whether a type is of a name: its own, an ancestor's, or an interface of itself or of an ancestor
abbrev pub is_a : TypeId → List ℕ → Bool
is_a t name = list_any (answers_to name) (chain t)

-- the properties that every object of a type has, base first
abbrev pub slots_of : TypeId → List Property
slots_of t = flat_map properties_of (reverse (chain t))

-- whether a type has an initializer and a finalizer: all but `object` and `container` have
abbrev pub has_finalizer : TypeId → Bool
has_finalizer Object = false
has_finalizer Container = false
has_finalizer _ = true

-- the types whose finalizers end an object, derived first
abbrev pub finals : TypeId → List TypeId
finals t = filter has_finalizer (chain t)

-- the types whose initializers begin an object, base first
abbrev pub inits : TypeId → List TypeId
inits t = reverse (finals t)

-- `-` where there are no names, else the names with `,` between each two
abbrev pub names_text : List (List ℕ) → List ℕ
names_text [] = codes "-"
names_text (name ∷ names) = join_with_byte 44 (name ∷ names)

-- the line of a type: its name, its parent or `-`, `abstract` or `plain`, its interfaces or `-`; spaces between them, and LF after
abbrev pub type_line : TypeInfo → List ℕ
type_line r =
    join_with_byte 32 (type_name r.id ∷ option_map_or type_name r.parent (codes "-") ∷ (if r.is_abstract then codes "abstract" else codes "plain")
    ∷ names_text (map interface_name r.interfaces) ∷ []) ++ 10 ∷ []
