-- For proofs alone. What contracts see of the heap: the objects in the order of births, and what stands beside them.
use Rattle.std.specs.Prelude.{◌≡◌, ℕ, ◌+◌, ◌≤◌, Bool, false, List, [], map, length, filter_map, count_by, Option, None, Some, is_some, option_map}
use Rattle.std.specs.List.{AllByRecursion}
use Rattle.std.specs.Option.{option_map_or}
use Rattle.qo_values.specs.declared.kinds.TypeId.{TypeId}
use Rattle.qo_values.specs.declared.limits.TheConstants.{LIVE_OBJECTS_MAX}
use Rattle.qo_claims.specs.Book.{ClaimsTaken, nothing_taken, without_claim}
use Rattle.qo_claims.specs.declared.claims.Claimed.{Claimed}
use Rattle.qo_claims.specs.declared.claims.Claimed.TheVariants as on
use Rattle.qo_events.specs.Queue.{Waiting, none_waiting, added, kept}
use Rattle.qo_kinds.specs.Bodies.{kept_of}
use Rattle.qo_kinds.specs.declared.kept_set.KeptSet.{KeptSet}
use Rattle.qo_slots.specs.declared.keys.Key.{Key}
use Rattle.qo_slots.specs.Table.{Table}
use Rattle.qo_object.specs.declared.slots.Slot.{Slot}
use Rattle.qo_object.specs.Slots.{target_of}
use Rattle.qo_object.specs.Content.{Content, forgotten}
use Rattle.qo_object.specs.BoardObject.{shown}
use Rattle.qo_model.specs.Board.{DeviceEvent}
use Rattle.qo_model.specs.declared.notes.Deed.TheVariants.{Final}
use Rattle.qo_model.specs.declared.notes.Note.{Note}
use Rattle.qo_model.specs.Release.{deleted_event}
use Rattle.qo_model.specs.Types.{finals}
use Rattle.qo_heap.specs.Keeping.{holders, parent_in, plain}
use Rattle.qo_heap.specs.Log.{Log, empty_log, noted, noted_all}
use Rattle.qo_heap.specs.Order.{rows_in}
use Rattle.qo_heap.specs.Rows.{IsLive, Rises, births, edit, object_at, without}
use Rattle.qo_heap.specs.declared.entries.Entry.{Entry}

-- the objects with their names, the births so far, the log of notes, all that is held, the events that wait, and the
-- virtual time
pub record Objects : Type 0 where
  pub rows : List (Key × Content)
  pub born : ℕ
  pub log : Log
  pub claims : ClaimsTaken
  pub events : Waiting
  pub time : ℕ

-- what a heap stands for: the objects of its table in the order of their names, with what stands beside them
abbrev pub objects_in : Table Entry → List Key → ClaimsTaken → List Note → ℕ → ℕ → Waiting → Objects
objects_in table order claims notes total time events =
    record {
      rows = plain (rows_in table order);
      born = table.born;
      log = record { total = total; kept = notes };
      claims = claims;
      events = events;
      time = time;
    }

-- a heap without objects
abbrev pub no_objects_made : Objects
no_objects_made = record { rows = []; born = 0; log = empty_log; claims = nothing_taken; events = none_waiting; time = 0 }

-- the heap with one object changed
abbrev pub with_edit : ℕ → (Content → Content) → Objects → Objects
with_edit n change v = record v { rows = edit n change v.rows }

-- the heap with a note more
abbrev pub with_note : Note → Objects → Objects
with_note note v = record v { log = noted note v.log }

-- the object of a birth, if it is there
abbrev pub content_of : Objects → ℕ → Option Content
content_of v n = object_at v.rows n

-- its slots by name; none where it is not there
abbrev pub slots_of : Objects → ℕ → List (List ℕ × Slot)
slots_of v n = option_map_or (λ (c : Content). c.slots) (content_of v n) []

-- the references of an object: how many slots hold it, and how often it is pinned
abbrev pub pins_of : Objects → ℕ → ℕ
pins_of v n = option_map_or (λ (c : Content). c.pins) (content_of v n) 0

abbrev pub refs_of : Objects → ℕ → ℕ
refs_of v n = holders n v.rows + pins_of v n

-- the parent of an object
abbrev pub parent_of : Objects → ℕ → Option Key
parent_of v n = parent_in v.rows n

-- the final notes of an object of a type, derived first
abbrev pub final_notes : ℕ → TypeId → List Note
final_notes n kind = map (λ (t : TypeId). record { birth = n; deed = Final t }) (finals kind)

-- an object in which the weak links that name another are emptied
abbrev pub forgets : ℕ → Key × Content → Key × Content
forgets n row = (row.0, forgotten n row.1)

-- all that is held, without one claim, if there is one, and without those of a body
abbrev pub without_one : Option Claimed → ClaimsTaken → ClaimsTaken
without_one None h = h
without_one (Some claim) h = without_claim claim h

abbrev pub without_kept : KeptSet → ClaimsTaken → ClaimsTaken
without_kept k h = without_one k.range (without_one k.backend (without_one k.ring (without_one k.slot h)))

-- and without that on the id of a device, if it has one
abbrev pub without_device : Option (List ℕ) → ClaimsTaken → ClaimsTaken
without_device id h = without_one (option_map on.Device id) h

-- what waits, with an event for which a place was promised, and with an event more, if there is one
abbrev pub with_kept_event : Option DeviceEvent → Waiting → Waiting
with_kept_event None w = w
with_kept_event (Some event) w = kept event w

abbrev pub with_event : Option DeviceEvent → Waiting → Waiting
with_event None w = w
with_event (Some event) w = added event w

-- the event that the guest refused the removal of a device, whose path is kept
abbrev pub refused_event : Content → Option DeviceEvent
refused_event c = option_map (λ (path : List ℕ). record { deleted = false; id = c.device_id; path = path }) c.kept_path

-- the heap without an object: its final notes are added, its claims are free, of a device whose path is kept the event
-- is added in the place that was promised, the weak links that name it are emptied, and it is gone
abbrev pub ended : ℕ → Content → Objects → Objects
ended n c v =
    record v {
      rows = map (forgets n) (without n v.rows);
      log = noted_all (final_notes n c.kind) v.log;
      claims = without_device c.device_id (without_kept (kept_of c.body) v.claims);
      events = with_kept_event (deleted_event (shown n c)) v.events;
    }

-- what is named by the slots of an object as a child or as the target of a link
abbrev pub targets : Content → List Key
targets c = filter_map (λ (s : List ℕ × Slot). target_of s.1) c.slots

-- each object that is named so is there
abbrev pub AreLinked : List (Key × Content) → Type 0
AreLinked rows = AllByRecursion (λ (row : Key × Content). AllByRecursion (IsLive rows) (targets row.1)) rows

-- what is so of every heap: births rise up to those so far, there are not too many objects, and what slots name is there
pub record IsHeap (v : Objects) : Type 0 where
  pub rising : Rises 0 (births v.rows) v.born
  pub few : length v.rows ≤ LIVE_OBJECTS_MAX
  pub linked : AreLinked v.rows

-- whether a path is kept for the end of an object; for each there is a place promised
abbrev pub has_path : Key × Content → Bool
has_path row = is_some row.1.kept_path

abbrev pub HasPlaces : Objects → Type 0
HasPlaces v = v.events.promised ≡ count_by has_path v.rows
