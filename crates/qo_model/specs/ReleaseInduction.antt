-- For a law alone. What a release keeps. The work of a release is a list: each object that is being finalized, and the
-- place from which its slots are still to be let go, the one that is finalized first at the front.
use Rattle.std.specs.Prelude.{◌≡◌, ℕ, ◌<◌, Bool, true, List, [], ◌∷◌, ◌++◌, filter, Some, None, option_map, ⊤}
use Rattle.std.specs.List.{AllByRecursion}
use Rattle.qo_model.specs.declared.notes.Note.{Note}
use Rattle.qo_model.specs.Board.{Board, Record, Slot, weak, DeviceEvent, record_of, is_live, slot_at, referent}
use Rattle.qo_model.specs.Paths.{births}
use Rattle.qo_model.specs.References.{refs}
use Rattle.qo_model.specs.Release.{drop_slot, next_index, finish, finalize}

-- what each turn of the work keeps: an object ends that has no slot at its place; a slot is let go whose object then is free, and this object comes to the
-- front; a slot is let go, and nothing is free
pub record KeepsRelease (P : List (ℕ × ℕ) → Board → Type 0) : Type 0 where
  pub ended : (b : Board) (n i : ℕ) (work : List (ℕ × ℕ)) → P ((n, i) ∷ work) b → slot_at b n i ≡ None → P work (finish b n)
  pub freed : (b : Board) (n i : ℕ) (work : List (ℕ × ℕ)) (s : Slot) (m : ℕ) → P ((n, i) ∷ work) b → slot_at b n i ≡ Some s → referent s ≡ Some m
      → refs (drop_slot b n i) m ≡ 0 → P ((m, 0) ∷ (n, next_index s i) ∷ work) (drop_slot b n i)
  pub kept : (b : Board) (n i : ℕ) (work : List (ℕ × ℕ)) (s : Slot) → P ((n, i) ∷ work) b → slot_at b n i ≡ Some s
      → ((m : ℕ) → referent s ≡ Some m → 0 < refs (drop_slot b n i) m) → P ((n, next_index s i) ∷ work) (drop_slot b n i)

-- what each turn keeps, a release keeps
abbrev pub Keeps : (List (ℕ × ℕ) → Board → Type 0) → Type 0
Keeps P = (b : Board) (n : ℕ) (work : List (ℕ × ℕ)) → P ((n, 0) ∷ work) b → P work (finalize b n)

-- a record without its slots
abbrev pub without_slots : Record → Record
without_slots r = record r { slots = [] }

-- what a release leaves as it was
pub record Leaves (b c : Board) : Type 0 where
  pub born : c.born ≡ b.born
  pub anonymous : c.anonymous ≡ b.anonymous
  pub now : c.now ≡ b.now
  pub running : c.running ≡ b.running
  pub holds : c.holds ≡ b.holds
  pub pending : c.pending ≡ b.pending
  pub notices : c.notices ≡ b.notices
  pub rings : c.rings ≡ b.rings
  pub pins : c.pins ≡ b.pins
  -- the objects are those of before without some, in the same order
  pub births_go : births c ≡ filter (is_live c) (births b)
  -- an object that is still there is as before, but for its slots
  pub same : (n : ℕ) → is_live c n ≡ true → option_map without_slots (record_of c n) ≡ option_map without_slots (record_of b n)
  -- what was noted, and the events, stay, and others come after them
  pub notes_gain : (more : List Note) × (c.notes ≡ b.notes ++ more)
  pub events_gain : (more : List DeviceEvent) × (c.events ≡ b.events ++ more)

-- a slot, if it is a weak link that is not empty, sees an object that passes the test
abbrev pub SeesOnly : (ℕ → Bool) → Slot → Type 0
SeesOnly there (weak t (Some m)) = there m ≡ true
SeesOnly there _ = ⊤

-- each weak link that is not empty sees an object that is there
abbrev pub WeakLinksLive : Board → Type 0
WeakLinksLive b = AllByRecursion (λ (r : Record). AllByRecursion (λ (s : List ℕ × Slot). SeesOnly (is_live b) s.1) r.slots) b.records
