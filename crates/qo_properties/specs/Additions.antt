-- For proofs alone. How a heap changes where a user's object is added.
use Rattle.std.specs.Prelude.{◌≡◌, ℕ, ◌+◌, List, [], ◌∷◌, ◌++◌, ◌⊎◌, Some, None, Result, Ok, Err}
use Rattle.qo_values.specs.declared.kinds.TypeId.{TypeId}
use Rattle.qo_slots.specs.declared.keys.Key.{Key}
use Rattle.qo_heap.specs.Log.{noted_all}
use Rattle.qo_object.specs.Content.{Content, with_slot, as_made}
use Rattle.qo_object.specs.Slots.{Named}
use Rattle.qo_object.specs.declared.slots.Slot.TheVariants.{Child}
use Rattle.qo_model.specs.Board.{Board}
use Rattle.qo_model.specs.Objects.{Given, attempted_as, object_add}
use Rattle.qo_heap.specs.Board.{Shows}
use Rattle.qo_properties.specs.declared.refusals.Refusal.{Refusal}
use Rattle.qo_properties.specs.declared.refusals.Refusal.TheVariants.{Refused, Memory}
use Rattle.qo_heap.specs.Objects.{Objects, final_notes, with_edit}
use Rattle.qo_life.specs.Life.{init_notes}

-- a heap with an object more, the newest
abbrev pub with_newest : Key → Content → Objects → Objects
with_newest o c v = record v { rows = v.rows ++ (o, c) ∷ []; born = v.born + 1; log = noted_all (init_notes o.birth c.kind) v.log }

-- a heap with a child more under an object, the newest, which has these slots
abbrev pub with_child : ℕ → List ℕ → Key → TypeId → List Named → Objects → Objects
with_child n name o kind slots v = with_newest o (as_made kind slots 1) (with_edit n (with_slot name (Child o)) v)

-- an object of a type was made as a child of another, with these slots
pub record IsChild (v w : Objects) (o parent : Key) (name : List ℕ) (kind : TypeId) (slots : List Named) : Type 0 where
  pub birth : o.birth ≡ v.born + 1
  pub is : w ≡ with_child parent.birth name o kind slots v

-- the heap after an attempt that was given up: the object was made and ended
abbrev pub given_up : TypeId → Objects → Objects
given_up t v = record v { born = v.born + 1; log = noted_all (final_notes (v.born + 1) t) (noted_all (init_notes (v.born + 1) t) v.log) }

-- a heap is as it was, or an attempt was given up
abbrev pub IsTried : TypeId → Objects → Objects → Type 0
IsTried t v w = (w ≡ v) ⊎ (w ≡ given_up t v)

-- what `object-add` answers and leaves: the definition's refusal and board; for want of memory the board as it was, or, where nothing bars it, an attempt that
-- was given up
abbrev pub Adds : Board → List ℕ → List ℕ → List Given → Result (Unit {0}) Refusal → Objects → Type 0
Adds b driver id props (Ok done) w = ((object_add b driver id props).refusal ≡ None) × Shows (object_add b driver id props).board w
Adds b driver id props (Err (Refused code)) w = ((object_add b driver id props).refusal ≡ Some code) × Shows (object_add b driver id props).board w
Adds b driver id props (Err Memory) w = Shows b w ⊎ Shows (attempted_as b driver id) w
