-- When the objects of a board are shaped as their types say (docs/devel/qom.rst, "The QEMU Object Model"; include/qom/object.h: properties, child and link).
use Rattle.std.specs.Prelude.{◌≡◌, ◌⊎◌, ℕ, ◌<◌, Bool, true, false, not, ◌&&◌, List, [], ◌∷◌, map, Option, Some, None, option_and_then, ⊤}
use Rattle.std.specs.List.{AllByRecursion}
use Rattle.std.specs.Str.{bytes_eq}
use Rattle.qo_values.specs.Properties.{admits}
use Rattle.qo_values.specs.Registers.{fresh_registers}
pub use Rattle.qo_values.specs.Registers.{is_like}
use Rattle.qo_values.specs.declared.births.TheConstants.{MACHINE_BIRTH, ROOT_BIRTH}
use Rattle.qo_values.specs.declared.kinds.TypeId.{TypeId}
use Rattle.qo_values.specs.declared.kinds.TypeId.TheVariants.{Container, Device, Machine, MemBus, SlotBus}
use Rattle.qo_values.specs.declared.limits.TheConstants.{BUS_SLOTS}
use Rattle.qo_values.specs.declared.properties.PropType.{PropType}
use Rattle.qo_values.specs.declared.properties.Val.{Val}
use Rattle.qo_values.specs.declared.properties.Val.TheVariants as val
use Rattle.qo_model.specs.Board.{Board, Record, Slot, plain, child, strong, weak, alias, kind_of, record_of, slots_at}
use Rattle.qo_model.specs.Devices.{clock_name, kid_name}
use Rattle.qo_model.specs.Objects.{has_slot}
use Rattle.qo_model.specs.Opening.{opening_board}
use Rattle.qo_model.specs.Properties.{property_named}
use Rattle.qo_model.specs.RowNames.{property_name}
use Rattle.qo_model.specs.SoundGraph.{without_value}
use Rattle.qo_model.specs.Types.{slots_of}
use Rattle.qo_model.specs.declared.properties.First.{First}
use Rattle.qo_model.specs.declared.properties.First.TheVariants as first
use Rattle.qo_model.specs.declared.properties.Property.{Property}
use Rattle.qo_model.specs.declared.properties.PropertyRole.{PropertyRole}
use Rattle.qo_model.specs.declared.properties.PropertyRole.TheVariants as row
use Rattle.qo_sound_devices.specs.SoundPlaces.{child_entries, stands}

-- what a plain property of a type may hold: nothing where it begins with nothing, or a value that the type admits; so a clock's period, mul and div are numbers
abbrev pub MayHold : PropType → First → Val → Type 0
MayHold type begins v = ((begins ≡ first.Nothing) × (v ≡ val.Nothing)) ⊎ (admits type v ≡ true)

-- a slot is as a row says: it holds such a value, is a child (of the row's type, as `SoundShape` says), links to objects of the row's type, strongly or weakly, or is another name for the row's property
abbrev pub HasRole : PropertyRole → Slot → Type 0
HasRole (row.Plain type begins) (plain v) = MayHold type begins v
HasRole (row.Child type) (child m) = ⊤
HasRole (row.Link t true) (strong to target) = to ≡ t
HasRole (row.Link t false) (weak to target) = to ≡ t
HasRole (row.Alias owner of) (alias m name) = name ≡ property_name of
HasRole kind s = ⊥

-- and has the row's name
pub record IsOfProperty (p : Property) (s : List ℕ × Slot) : Type 0 where
  pub name : s.0 ≡ property_name p.name
  pub fits : HasRole p.role s.1

-- a child that is not the clock may be missing: the bus of a bridge that was detached
abbrev pub is_child_role : PropertyRole → Bool
is_child_role (row.Child type) = true
is_child_role kind = false

abbrev pub may_miss : Property → Bool
may_miss p = is_child_role p.role && not (bytes_eq (property_name p.name) clock_name)

-- a further slot: of a bus a link `child[N]` that holds a device, of a container and of the machine a child, of any other object none
abbrev pub IsKidLink : List ℕ → Slot → Type 0
IsKidLink name (strong to (Some m)) = (to ≡ Device) × ((k : ℕ) × ((k < BUS_SLOTS) × (name ≡ kid_name k)))
IsKidLink name s = ⊥

abbrev pub IsChildSlot : Slot → Type 0
IsChildSlot (child m) = ⊤
IsChildSlot s = ⊥

abbrev pub IsFurther : TypeId → List ℕ × Slot → Type 0
IsFurther SlotBus s = IsKidLink s.0 s.1
IsFurther MemBus s = IsKidLink s.0 s.1
IsFurther Container s = IsChildSlot s.1
IsFurther Machine s = IsChildSlot s.1
IsFurther t s = ⊥

-- slots of an object of a type are those of these rows, in order, and after them further ones
pub data HasSlots (t : TypeId) : List Property → List (List ℕ × Slot) → Type 0 where
  further : {slots : List (List ℕ × Slot)} → AllByRecursion (IsFurther t) slots → HasSlots t [] slots
  next : {p : Property} {ps : List Property} {s : List ℕ × Slot} {slots : List (List ℕ × Slot)} → IsOfProperty p s → HasSlots t ps slots
      → HasSlots t (p ∷ ps) (s ∷ slots)
  missing : {p : Property} {ps : List Property} {slots : List (List ℕ × Slot)} → may_miss p ≡ true → HasSlots t ps slots → HasSlots t (p ∷ ps) slots

-- an object is shaped as its type says
pub record IsShaped (r : Record) : Type 0 where
  -- it has the slots of its type's properties, base first, and after them further ones
  pub slots : HasSlots r.kind (slots_of r.kind) r.slots
  -- its registers are those of its type's body
  pub registers : is_like r.registers (fresh_registers r.kind) ≡ true

-- the type of the child that objects of a type have under a name, where it is the name of a property that is a child
abbrev pub type_of_child : PropertyRole → Option TypeId
type_of_child (row.Child type) = Some type
type_of_child kind = None

abbrev pub child_type : TypeId → List ℕ → Option TypeId
child_type t name = option_and_then (λ (p : Property). type_of_child p.role) (property_named t name)

-- a child of an object of a type, under a name: where the name is that of such a property, the child is of the property's type
abbrev pub HasChildType : Board → TypeId → List ℕ × ℕ → Type 0
HasChildType b t e = (k : TypeId) → child_type t e.0 ≡ Some k → kind_of b e.1 ≡ Some k

-- slots without their plain values
abbrev pub unvalued : List (List ℕ × Slot) → List (List ℕ × Slot)
unvalued slots = map (λ (s : List ℕ × Slot). (s.0, without_value s.1)) slots

-- an object has a slot for each property of a type
abbrev pub HasEach : Board → ℕ → TypeId → Type 0
HasEach b n t = AllByRecursion (λ (p : Property). has_slot b n (property_name p.name) ≡ true) (slots_of t)

-- the objects of a board are shaped as their types say
pub record SoundShape (b : Board) : Type 0 where
  -- each object that is there is
  pub shaped : (n : ℕ) (r : Record) → record_of b n ≡ Some r → IsShaped r
  -- what it has as a child under the name of a property is of the property's type
  pub children : (n : ℕ) (t : TypeId) → kind_of b n ≡ Some t → AllByRecursion (HasChildType b t) (child_entries b n)
  -- a device that stands in a container lacks none of its slots
  pub whole : (d : ℕ) (t : TypeId) → stands b d ≡ true → kind_of b d ≡ Some t → HasEach b d t
  -- the objects that every machine begins with are there, with their types
  pub opening : AllByRecursion (λ (o : Record). kind_of b o.birth ≡ Some o.kind) opening_board.records
  -- the root and the machine have the slots, but for plain values, that they begin with: so their children, under the same names
  pub fixed : AllByRecursion (λ n. unvalued (slots_at b n) ≡ unvalued (slots_at opening_board n)) (ROOT_BIRTH ∷ MACHINE_BIRTH ∷ [])
