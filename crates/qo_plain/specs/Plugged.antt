-- For a law alone. The board with a device that was added, as one record.
use Rattle.std.specs.Prelude.{◌≡◌, ℕ, ◌+◌, suc, true, if◌then◌else◌, List, [], ◌∷◌, ◌++◌, map, codes, Option, Some, None, Ok}
use Rattle.std.specs.Str.{bytes_eq}
use Rattle.qo_values.specs.Registers.{fresh_registers}
use Rattle.qo_values.specs.declared.kinds.TypeId.{TypeId}
use Rattle.qo_values.specs.declared.kinds.TypeId.TheVariants.{Bus, Clock, Device, MemDimm, MemoryBackend}
use Rattle.qo_values.specs.declared.properties.Val.TheVariants as val
use Rattle.qo_values.specs.declared.ranges.Range.{Range}
use Rattle.qo_model.specs.Board.{Board, Record, Slot, plain, child, strong, weak}
use Rattle.qo_model.specs.Changes.{with_added}
use Rattle.qo_model.specs.Devices.{kid_name}
use Rattle.qo_model.specs.Objects.{Given, refusal_of, slot_given}
use Rattle.qo_model.specs.Opening.{fresh_record, slots_with}
use Rattle.qo_model.specs.Paths.{is_of}
use Rattle.qo_model.specs.Plug.{Resources, Wanted, begun_notes, born_from, bus_for, bus_slot_for, further_of, name_for, number_for, objects_in, parent_for, plug, range_for, registers_on, size_of, source_for, started, target_for, types_in, with_device}
use Rattle.qo_model.specs.Release.{edited}
use Rattle.qo_model.specs.Types.{TypeInfo, is_a, type_named}
use Rattle.qo_sound.specs.TreeKept.{SoundTree}
use Rattle.qo_sound_bounds.specs.SoundSources.{SoundSources}
use Rattle.qo_sound_devices.specs.SoundDevices.{SoundDevices}

-- slots, of which the one of a name is this
abbrev pub put : List ℕ → Slot → List (List ℕ × Slot) → List (List ℕ × Slot)
put name s slots = map (λ (x : List ℕ × Slot). if bytes_eq x.0 name then (name, s) else x) slots

-- the births of further objects by their names, one after another from a birth on
abbrev pub birth_in : ℕ → List (List ℕ × TypeId) → List ℕ → Option ℕ
birth_in n [] name = None
birth_in n (f ∷ fs) name = if bytes_eq f.0 name then Some n else birth_in (suc n) fs name

-- the slots that a device n begins with, its further objects among them, with the values that were given
abbrev pub begun_slots : Board → ℕ → TypeId → Wanted → List (List ℕ × Slot)
begun_slots b n t a = map (slot_given b a.props) (slots_with (birth_in (suc n) (further_of t)) t)

-- a DIMM has its address
abbrev pub at_address : Option Range → List (List ℕ × Slot) → List (List ℕ × Slot)
at_address None slots = slots
at_address (Some r) slots = put (codes "addr") (plain (val.Uint r.at)) slots

-- each device is on its bus, in its slot there, and realized
abbrev pub placed_slots : Resources → List (List ℕ × Slot) → List (List ℕ × Slot)
placed_slots resources slots =
    put (codes "realized") (plain (val.Bool true))
    (put (codes "parent_bus") (strong Bus (Some resources.bus))
    (put (codes "slot") (plain (val.Uint resources.slot))
    (at_address resources.range slots)))

-- the device: its range, if it has one, is in its registers
abbrev pub device_record : Board → ℕ → TypeId → Wanted → Resources → Record
device_record b n t a resources =
    record {
      birth = n;
      kind = t;
      slots = placed_slots resources (begun_slots b n t a);
      registers = registers_on resources.range (fresh_registers t);
      device_id = a.id;
      kept_path = None;
    }

-- a further object of it: a clock goes by a source, and any other is as it is made
abbrev pub further_record : ℕ → ℕ × TypeId → Record
further_record source (m, Clock) =
    let r = fresh_record m Clock in record r { slots = put (codes "source") (weak Clock (Some source)) r.slots }
further_record source (m, t) = fresh_record m t

-- the objects that were there: the container has the device as a child, and the bus has it in the slot
abbrev pub hosting : Board → ℕ → Wanted → Resources → List Record
hosting b n a resources =
    map (edited resources.bus (with_added (kid_name resources.slot) (strong Device (Some n))))
    (map (edited (parent_for a.id) (with_added (name_for b a.id) (child n))) b.records)

-- one add more of a device without an id
abbrev pub count_with : Option (List ℕ) → ℕ → ℕ
count_with None count = suc count
count_with (Some id) count = count

-- the board with a device more: it stands after what was there, and its further objects after it; the initializers are noted
abbrev pub plain_device : Board → TypeId → Wanted → Resources → Board
plain_device b t a resources =
    let n = b.born + 1 in
    let further = map (λ (f : List ℕ × TypeId). f.1) (further_of t) in
    record b {
      records = hosting b n a resources ++ device_record b n t a resources ∷ map (further_record (source_for b resources.bus)) (born_from (suc n) further);
      born = b.born + objects_in t;
      anonymous = count_with a.id b.anonymous;
      notes = b.notes ++ begun_notes (born_from n (types_in t));
    }

-- a DIMM has a range, at the address that is given or the first that is free, of its backend's size; no other device has one
abbrev pub HasRange : Board → TypeId → List Given → Option Range → Type 0
HasRange b MemDimm props None = ⊥
HasRange b MemDimm props (Some r) =
    (m : ℕ)
    × ((target_for b MemoryBackend props (codes "memdev") ≡ Some m) × (range_for b (number_for props (codes "addr")) (size_of b m) ≡ Ok r))
HasRange b t props range = range ≡ None

-- where a device goes: the bus that is given or the machine's, the slot there that is given or the first that is free, and the range
pub record AreResources (b : Board) (t : TypeId) (a : Wanted) (resources : Resources) : Type 0 where
  pub bus : bus_for b t a.bus ≡ Some resources.bus
  pub slot : bus_slot_for b resources.bus (number_for a.props (codes "slot")) ≡ Ok resources.slot
  pub range : HasRange b t a.props resources.range

-- a board after an add that nothing refuses: the device, of the type that was asked for, starts from that record
pub record IsAdded (b : Board) (a : Wanted) (c : Board) : Type 0 where
  pub row : TypeInfo
  pub type : type_named a.driver ≡ Some row
  pub resources : Resources
  pub goes : AreResources b row.id a resources
  pub board : c ≡ started (b.born + 1) row.id (plain_device b row.id a resources)

pub record PluggedLaw : Type 0 where
  -- on a sound board this comes of every add that nothing refuses
  pub plugged : (b : Board) → SoundDevices b → SoundSources b → (a : Wanted) → (plug b a).refusal ≡ None → IsAdded b a (plug b a).board
  -- the record is the board with a device of any type on any bus, where no property that is given is refused, and the source for the bus is a clock
  pub made : (b : Board) → SoundTree b → (t : TypeId) → is_a t (codes "device") ≡ true → (a : Wanted) → refusal_of b t a.props ≡ None → (resources : Resources)
      → is_of b (codes "bus") resources.bus ≡ true → is_of b (codes "clock") (source_for b resources.bus) ≡ true → with_device b t a resources ≡ plain_device b t a resources
