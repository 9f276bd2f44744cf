-- For proofs alone. A device as it is made over the heap, and what is left where memory ran out (include/hw/qdev-core.h, "Realization").
use Rattle.std.specs.Prelude.{◌≡◌, ℕ, ◌+◌, ◌<◌, ◌≤◌, Bool, List, [], ◌++◌, ◌⊎◌, map, take, slice_get, Some, option_map, IfSome}
use Rattle.qo_values.specs.declared.kinds.TypeId.{TypeId}
use Rattle.qo_model.specs.Board.{Board, Record, Slot, plain}
use Rattle.qo_model.specs.Changes.{make}
use Rattle.qo_model.specs.Objects.{Given, init_notes, slot_given, with_attempt}
use Rattle.qo_model.specs.Plug.{cut_attempt, objects_in, properties_made}
use Rattle.qo_model.specs.Release.{edit}
use Rattle.qo_model.specs.Types as types
use Rattle.qo_model.specs.declared.properties.Property.{Property}
use Rattle.qo_model.specs.declared.properties.PropertyRole.TheVariants.{Child}
use Rattle.qo_kinds.specs.Bodies.{IsTimely, none_kept}
use Rattle.qo_kinds.specs.declared.kept_set.KeptSet.{KeptSet}
use Rattle.qo_slots.specs.declared.keys.Key.{Key}
use Rattle.qo_heap.specs.Rows.{IsLive}
use Rattle.qo_object.specs.Content.{Content, fresh}
use Rattle.qo_object.specs.BoardObject.{shown_slot}
use Rattle.qo_object.specs.Slots.{Named}
use Rattle.qo_heap.specs.Board.{Shows}
use Rattle.qo_heap.specs.Objects.{Objects, content_of}
use Rattle.qo_properties.specs.Claims.{KeepsBook}
use Rattle.qo_properties.specs.KeptClaims.{Kept, all_kept, new_kept}
use Rattle.qo_properties.specs.Filling.{filled, filled_with, value_alone}
use Rattle.qo_properties.specs.declared.adding.filling.InitialValue.{InitialValue}
use Rattle.qo_properties.specs.NewSlots.{new_slots}
use Rattle.qo_properties.specs.OpeningSteps.{KeepsNames}
pub use Rattle.qo_plug.specs.OwnSlots.{is_own, own_slots, own_slots_of}

-- a heap becomes another as each board that it shows does by a step
abbrev pub Makes : (Board → Board) → Objects → Objects → Type 0
Makes step v w = (c : Board) → Shows c v → Shows (step c) w

-- a device of a type as it is created: without slots, and held from outside the tree
abbrev pub created : Board → TypeId → Board
created b t = record (make t b) { notes = b.notes ++ init_notes (b.born + 1) t }

-- it was made, property by property, and stands nowhere
abbrev pub pinned_draft : Board → TypeId → Board
pinned_draft b t = properties_made (b.born + 1) t (types.slots_of t) (created b t)

-- a plain slot with the value that was given for it; its links and other slots stay
abbrev pub value_given : Board → List Given → List ℕ × Slot → List ℕ × Slot
value_given b props (name, plain v) = slot_given b props (name, plain v)
value_given b props s = s

abbrev pub with_values : Board → List Given → Record → Record
with_values b props r = record r { slots = map (value_given b props) r.slots }

-- it was made so that its plain properties have the values that were given
abbrev pub given_draft : Board → TypeId → List Given → Board
given_draft b t props = edit (b.born + 1) (with_values b props) (pinned_draft b t)

-- a heap becomes another as each board does by a step, both with values that were given for an object
abbrev pub MakesGiven : Board → List Given → ℕ → (Board → Board) → Objects → Objects → Type 0
MakesGiven b props n step v w = (c : Board) → Shows (edit n (with_values b props) c) v → Shows (edit n (with_values b props) (step c)) w

-- a slot of a new device with the value planned for it has what was given, or is a link
abbrev pub HasPlanned : Board → List Given → InitialValue → Named → Type 0
HasPlanned b props f s = (s.0, shown_slot (filled_with (value_alone f) s.1)) ≡ value_given b props (s.0, shown_slot s.1)

-- the own slots of a new object of a type, with the values planned
abbrev pub valued_slots : TypeId → List InitialValue → List Named
valued_slots t plan = filled (map value_alone plan) (new_slots t)

-- all of an object but its slots
abbrev pub bare : Content → Content
bare c = record c { slots = [] }

-- an object has begun and ended no segment after the heap's time, or is not there
abbrev pub IsQuiet : Objects → ℕ → Type 0
IsQuiet v n = IfSome (content_of v n) (λ (c : Content). IsTimely v.time c.body)

-- a heap has grown, or its objects have other slots: who was there is there under the same name, and has all else as before; what is held stays, and the book
-- of claims stays right; events and the time stay; of who is new nothing is kept, and it has begun no segment
pub record Grows (v w : Objects) : Type 0 where
  pub names : KeepsNames v w
  pub rest : (n : ℕ) → n ≤ v.born → option_map bare (content_of w n) ≡ option_map bare (content_of v n)
  pub born : v.born ≤ w.born
  pub book : KeepsBook v w
  pub claims : w.claims ≡ v.claims
  pub kept : (n : ℕ) (k : Kept) → all_kept w n ≡ Some k → (all_kept v n ≡ Some k) ⊎ ((v.born < n) × (k ≡ new_kept))
  pub quiet : (n : ℕ) → IsQuiet v n → IsQuiet w n
  pub events : w.events ≡ v.events
  pub time : w.time ≡ v.time

-- a device of a type was made as planned: it is there, of the next birth, held once, with a new body, without id and path; its own slots have the values
-- planned,
-- and its links are empty
pub record IsDraft (t : TypeId) (plan : List InitialValue) (v w : Objects) (o : Key) : Type 0 where
  pub birth : o.birth ≡ v.born + 1
  pub live : IsLive w.rows o
  pub rest : option_map bare (content_of w o.birth) ≡ Some (bare (fresh t))
  pub own : own_slots_of w o.birth ≡ valued_slots t plan

-- how far the properties of a device came, for which this was given: the first of them were made; or a further object of the next one was made too, and has
-- ended
pub data Fell (b : Board) (props : List Given) (n : ℕ) (t : TypeId) (v w : Objects) : Type 0 where
  stopped : (k : ℕ) → MakesGiven b props n (properties_made n t (take k (types.slots_of t))) v w → Fell b props n t v w
  unjoined : (k : ℕ) (p : Property) (further : TypeId) → slice_get (types.slots_of t) k ≡ Some p → p.role ≡ Child further
      → MakesGiven b props n (λ c. with_attempt (properties_made n t (take k (types.slots_of t)) c) further) v w → Fell b props n t v w

-- a heap is as it was, or an attempt was cut after so many objects, the last of them joined or not
abbrev pub CutShort : Board → TypeId → Objects → Type 0
CutShort b t w = Shows b w ⊎ ((i : ℕ) × (joined : Bool) × (1 ≤ i) × (i ≤ objects_in t) × Shows (cut_attempt b t i joined) w)
