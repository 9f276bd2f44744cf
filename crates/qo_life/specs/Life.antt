-- For proofs alone. The life of the objects of a heap: what is noted at birth, and what a release makes of a heap.
use Rattle.std.specs.Prelude.{◌≡◌, ℕ, suc, true, List, map, Some, is_some, option_map}
use Rattle.qo_values.specs.declared.kinds.TypeId.{TypeId}
use Rattle.qo_values.specs.declared.kinds.Act.TheVariants.{Init}
use Rattle.qo_slots.specs.declared.keys.Key.{Key}
use Rattle.qo_heap.specs.Rows.{IsLive}
use Rattle.qo_model.specs.Board.{Board}
use Rattle.qo_model.specs.Types.{inits}
use Rattle.qo_model.specs.declared.notes.Deed.TheVariants.{Did}
use Rattle.qo_model.specs.declared.notes.Note.{Note}
use Rattle.qo_heap.specs.Log.{Log, noted_all}
use Rattle.qo_object.specs.Content.{Content}
use Rattle.qo_object.specs.declared.slots.Slot.{Slot}
use Rattle.qo_object.specs.declared.slots.Slot.TheVariants.{Child}
use Rattle.qo_claims.specs.declared.claims.Claimed.{Claimed}
use Rattle.qo_heap.specs.Board.{Shows}
use Rattle.qo_heap.specs.Book.{IsBook}
use Rattle.qo_heap.specs.Objects.{Objects, content_of}

-- the note of the initializer of a type, and those of a new object of a type, base first
abbrev pub init_note : ℕ → TypeId → Note
init_note n t = record { birth = n; deed = Did (Init t) }

abbrev pub init_notes : ℕ → TypeId → List Note
init_notes n kind = map (init_note n) (inits kind)

-- a heap with notes more; and with another log
abbrev pub with_notes : List Note → Objects → Objects
with_notes notes v = record v { log = noted_all notes v.log }

abbrev pub with_log : Log → Objects → Objects
with_log log v = record v { log = log }

-- the place of the slot after one that was let go: after a child slot the next has the same place
abbrev pub next_at : ℕ → Slot → ℕ
next_at at (Child key) = at
next_at at _ = suc at

-- who was there and is still there has the same name
abbrev pub KeepsNames : Objects → Objects → Type 0
KeepsNames v w = (key : Key) → IsLive v.rows key → is_some (content_of w key.birth) ≡ true → IsLive w.rows key

-- a heap becomes another as a board does by a step, with some notes more whatever the log was, nobody is there who was
-- not, who is there has the body that it had and what was kept of it beside the tree, the book of claims stays right, and
-- the time and the room for further events stay
pub record Goes (step : Board → Board) (v w : Objects) : Type 0 where
  pub more : List Note
  pub log : w.log ≡ noted_all more v.log
  pub shown : (b : Board) (log : Log) → Shows b (with_log log v) → Shows (step b) (with_log (noted_all more log) w)
  pub names : (key : Key) → IsLive w.rows key → IsLive v.rows key
  pub bodies : (n : ℕ) (c : Content) → content_of w n ≡ Some c → option_map (λ (d : Content). d.body) (content_of v n) ≡ Some c.body
  pub sides : (n : ℕ) (c : Content) → content_of w n ≡ Some c → option_map (λ (d : Content). d.side) (content_of v n) ≡ Some c.side
  pub book : (out : List Claimed) → IsBook out v → IsBook out w
  pub time : w.time ≡ v.time
  pub spare : w.events.spare ≡ v.events.spare
