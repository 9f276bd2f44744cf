-- For proofs alone. A device takes its place: its container and its bus have it, its own slots have what was given, and it keeps its claims
-- (include/hw/qdev-core.h; docs/devel/qom.rst).
use Rattle.std.specs.Prelude.{◌≡◌, ℕ, Bool, true, false, if◌then◌else◌, List, [], ◌∷◌, Option, Some, option_map, ⊤}
use Rattle.qo_claims.specs.Book.{ClaimsTaken}
use Rattle.qo_values.specs.declared.kinds.TypeId.TheVariants.{Device}
use Rattle.qo_slots.specs.declared.keys.Key.{Key}
use Rattle.qo_values.specs.Registers.{Registers, dimm}
use Rattle.qo_values.specs.declared.ranges.Range.{Range}
use Rattle.qo_kinds.specs.Bodies.{registers_of, with_kept, with_registers}
use Rattle.qo_kinds.specs.declared.bodies.Body.{Body}
use Rattle.qo_kinds.specs.declared.kept_set.KeptSet.{KeptSet}
use Rattle.qo_model.specs.Board.{Board}
use Rattle.qo_model.specs.Devices.{kid_name}
use Rattle.qo_model.specs.Paths.{canonical}
use Rattle.qo_model.specs.Plug.{Resources, Wanted, clocked, name_for, parent_for, registers_on, source_for, stood}
use Rattle.qo_object.specs.declared.slots.Slot.TheVariants.{Child, Link}
use Rattle.qo_object.specs.Slots.{Named}
use Rattle.qo_object.specs.declared.room.Side.{Side}
use Rattle.qo_object.specs.Content.{Content, with_slot}
use Rattle.qo_heap.specs.Acts.{KeepsCounts}
use Rattle.qo_heap.specs.Board.{Shows, pins_in}
use Rattle.qo_heap.specs.Objects.{Objects, content_of, with_edit}
use Rattle.qo_properties.specs.Claims.{KeepsBook}
use Rattle.qo_properties.specs.KeptClaims.{SameClaims}
use Rattle.qo_properties.specs.Filling.{filled_with}
use Rattle.qo_properties.specs.OpeningSteps.{KeepsNames}
use Rattle.qo_properties.specs.declared.adding.filling.InitialValue.{InitialValue}
use Rattle.qo_properties.specs.declared.adding.filling.InitialValue.TheVariants.{Default}
use Rattle.qo_plug.specs.declared.resources.Memory.{Memory}
use Rattle.qo_plug.specs.declared.resources.Resources.{Resources as Chosen}
use Rattle.qo_plug.specs.OwnSlots.{is_own}

-- slots of which the own ones are filled in order, and so an object
abbrev pub own_filled : List InitialValue → List Named → List Named
own_filled fs [] = []
own_filled [] (s ∷ slots) = s ∷ slots
own_filled (f ∷ fs) (s ∷ slots) = if is_own s.1 then (s.0, filled_with f s.1) ∷ own_filled fs slots else s ∷ own_filled (f ∷ fs) slots

-- a slot that stays as it begins
abbrev pub is_default : InitialValue → Bool
is_default Default = true
is_default f = false

abbrev pub with_own : List InitialValue → Content → Content
with_own fs c = record c { slots = own_filled fs c.slots }

-- an object whose body keeps other claims, and one with another id
abbrev pub kept_in : KeptSet → Content → Content
kept_in k c = record c { body = with_kept k c.body }

abbrev pub named : Option (List ℕ) → Content → Content
named id c = record c { device_id = id }

-- registers of a DIMM, a body with them, and an object that has these stand on a range, if there is one
abbrev pub HasDimm : Registers → Type 0
HasDimm (dimm d) = ⊤
HasDimm r = ⊥

abbrev pub IsDimm : Body → Type 0
IsDimm b = HasDimm (registers_of b)

abbrev pub ranged : Option Range → Content → Content
ranged range c = record c { body = with_registers (registers_on range (registers_of c.body)) c.body }

-- another book of claims
abbrev pub with_book : ClaimsTaken → Objects → Objects
with_book h v = record v { claims = h }

-- a device joins its container and its bus
abbrev pub joined_on : Key → List ℕ → Key → ℕ → Key → Objects → Objects
joined_on container name bus slot o v =
    with_edit bus.birth (with_slot (kid_name slot) (Link Device true (Some o))) (with_edit container.birth (with_slot name (Child o)) v)

-- who was there is there under the same name; paths and pins stay
pub record Alike (v w : Objects) : Type 0 where
  pub names : KeepsNames v w
  pub paths : (n : ℕ) → option_map (λ (c : Content). c.kept_path) (content_of w n) ≡ option_map (λ (c : Content). c.kept_path) (content_of v n)
  pub pins : pins_in w.rows ≡ pins_in v.rows

-- the body of an object, and what is kept of it beside the tree
abbrev pub own_of : Content → Body × Side
own_of c = (c.body, c.side)

-- and the ids of devices, these, the room for events and the book of claims stay too
pub record Stays (v w : Objects) : Type 0 where
  pub alike : Alike v w
  pub ids : (n : ℕ) → option_map (λ (c : Content). c.device_id) (content_of w n) ≡ option_map (λ (c : Content). c.device_id) (content_of v n)
  pub own : (n : ℕ) → option_map own_of (content_of w n) ≡ option_map own_of (content_of v n)
  pub spare : w.events.spare ≡ v.events.spare
  pub book : KeepsBook v w

-- a clock was connected: who was there is there as it was, but for the periods that are kept of clocks
pub record Connected (v w : Objects) : Type 0 where
  pub alike : Alike v w
  pub claims : SameClaims v w
  pub counts : KeepsCounts v w
  pub spare : w.events.spare ≡ v.events.spare
  pub book : KeepsBook v w

-- the range of a memory, if there is one, and the resources of a device on a bus
abbrev pub range_in : Option Memory → Option Range
range_in memory = option_map (λ (m : Memory). m.range) memory

abbrev pub resources_in : ℕ → Chosen → Resources
resources_in bus s = record { bus = bus; slot = s.slot; range = range_in s.memory }

-- a device stands with its resources, with the source of its clock
abbrev pub seated : Board → ℕ → Wanted → Resources → Board → Board
seated b n a resources c = clocked (source_for b resources.bus) n (stood b n a resources c)

-- what is asked for puts a device into this container, under this name, with this id
pub record IsAttachment (b : Board) (a : Wanted) (parent : ℕ) (name : List ℕ) (id : Option (List ℕ)) : Type 0 where
  pub id_is : a.id ≡ id
  pub name_is : name_for b a.id ≡ name
  pub parent_is : parent_for a.id ≡ parent

-- the heap of the board on which it stands, and its path there
pub record Stood (b c : Board) (n : ℕ) (a : Wanted) (resources : Resources) (path : List ℕ) (w : Objects) : Type 0 where
  pub shown : Shows (seated b n a resources c) w
  pub path_is : canonical (seated b n a resources c) n ≡ Some path
