-- The board: the tree of objects and what stands beside it (docs/devel/qom.rst; notices: include/hw/hotplug.h; holds: docs/devel/reset.rst).
use Rattle.std.specs.Prelude.{ℕ, Bool, ◌==◌, List, [], find, slice_get, Option, None, Some, is_some, option_map}
use Rattle.std.specs.List.{list_any}
use Rattle.std.specs.Option.{option_map_or}
use Rattle.std.specs.Str.{bytes_eq}
use Rattle.qo_values.specs.Registers.{Registers}
use Rattle.qo_values.specs.declared.kinds.TypeId.{TypeId}
use Rattle.qo_values.specs.declared.properties.Val.{Val}
use Rattle.qo_model.specs.declared.notes.Note.{Note}

-- what stands in a slot of an object: a value; a child; a link to objects of a type, which may be empty, and which holds its target where it is strong; or a
-- property of another object under a name
pub data Slot : Type 0 where
  plain : Val → Slot
  child : ℕ → Slot
  strong : TypeId → Option ℕ → Slot
  weak : TypeId → Option ℕ → Slot
  alias : ℕ → List ℕ → Slot

-- an object: its birth number, its type, its slots by name in the order of adding, what its body keeps, and of a device its id and the path kept for its end
pub record Record : Type 0 where
  pub birth : ℕ
  pub kind : TypeId
  pub slots : List (List ℕ × Slot)
  pub registers : Registers
  pub device_id : Option (List ℕ)
  pub kept_path : Option (List ℕ)

-- what the guest is told of a device: that it was plugged in, or that its removal is asked for
pub record Notice : Type 0 where
  pub plug : Bool
  pub birth : ℕ

-- a ring of characters: its id, how many bytes it holds at most, and those that it holds
pub record Ring : Type 0 where
  pub id : List ℕ
  pub size : ℕ
  pub bytes : List ℕ

-- an event on a device: that it was deleted, or that the guest refused its removal
pub record DeviceEvent : Type 0 where
  pub deleted : Bool
  pub id : Option (List ℕ)
  pub path : List ℕ

-- a removal that is asked for: of a device by its birth, and the virtual time in ns at which it was last asked for
pub record Removal : Type 0 where
  pub birth : ℕ
  pub asked : ℕ

-- the board; no count of references, holds or kids stands in it, and no period of a clock with a source
pub record Board : Type 0 where
  -- the objects in the order of their births, the births so far, and the accepted adds of devices without an id
  pub records : List Record
  pub born : ℕ
  pub anonymous : ℕ
  -- the virtual time in ns, and whether the machine runs
  pub now : ℕ
  pub running : Bool
  -- the objects that are held in reset, with repeats; the devices whose removal is asked for, in order of the first asking; the notices in order
  pub holds : List ℕ
  pub pending : List Removal
  pub notices : List Notice
  pub rings : List Ring
  -- the objects that are held from outside the tree, with repeats
  pub pins : List ℕ
  -- what was noted of the objects since the machine began, in order
  pub notes : List Note
  -- the events on devices that are not yet sent
  pub events : List DeviceEvent

-- the object of a birth number
abbrev pub record_of : Board → ℕ → Option Record
record_of b n = find (λ r. r.birth == n) b.records

-- whether an object is there
abbrev pub is_live : Board → ℕ → Bool
is_live b n = is_some (record_of b n)

-- its type
abbrev pub kind_of : Board → ℕ → Option TypeId
kind_of b n = option_map (λ (r : Record). r.kind) (record_of b n)

-- whether the removal of a device is pending
abbrev pub is_of_device : ℕ → Removal → Bool
is_of_device d r = r.birth == d

abbrev pub is_pending : Board → ℕ → Bool
is_pending b d = list_any (is_of_device d) b.pending

-- its slots, and none where there is no such object
abbrev pub slots_at : Board → ℕ → List (List ℕ × Slot)
slots_at b n = option_map_or (λ (r : Record). r.slots) (record_of b n) []

-- its slot at a place, counted from 0
abbrev pub slot_at : Board → ℕ → ℕ → Option Slot
slot_at b n i = option_map (λ (s : List ℕ × Slot). s.1) (slice_get (slots_at b n) i)

-- its slot of a name
abbrev pub slot_named : Board → ℕ → List ℕ → Option Slot
slot_named b n name = option_map (λ (s : List ℕ × Slot). s.1) (find (λ s. bytes_eq s.0 name) (slots_at b n))

-- the object that a slot names: a child, or the target of a link that is not empty
abbrev pub target_of : Slot → Option ℕ
target_of (child n) = Some n
target_of (strong t target) = target
target_of (weak t target) = target
target_of _ = None

-- the object that a slot holds, as a child or by a strong link
abbrev pub referent : Slot → Option ℕ
referent (child n) = Some n
referent (strong t target) = target
referent _ = None
