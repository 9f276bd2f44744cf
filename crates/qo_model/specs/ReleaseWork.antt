-- For a law alone. A release as work on a list: each object that is being finalized, and the place from which its slots are still to be let go, the one that is
-- finalized first at the front.
use Rattle.std.specs.Prelude.{◌≡◌, ℕ, ◌<◌, Bool, true, nat_eq, if◌then◌else◌, List, [], ◌∷◌, map, Some, None, IfSome}
use Rattle.std.specs.List.{AllByRecursion, IsDistinct}
use Rattle.qo_model.specs.Board.{Board, Record, Slot, weak, is_live, slot_at, target_of, referent}
use Rattle.qo_model.specs.Paths.{births}
use Rattle.qo_model.specs.References.{refs}
use Rattle.qo_model.specs.Release.{drop_slot, next_index, finish, width, from_index, finalize}

-- what a board becomes as the work is done: the slots of the first object are let go from its place on, with all that follows, it ends, and so on with the others
abbrev pub rest : Board → List (ℕ × ℕ) → Board
rest b [] = b
rest b (p ∷ work) = rest (finish (from_index finalize (width b) b p.0 p.1) p.0) work

-- births differ, and what child slots and links name is there
pub record IsLinked (b : Board) : Type 0 where
  pub differ : IsDistinct nat_eq (births b)
  pub named : AllByRecursion (λ (r : Record). AllByRecursion (λ (s : List ℕ × Slot). IfSome (target_of s.1) (λ m. is_live b m ≡ true)) r.slots) b.records

-- the objects of the work differ, they are there, and nothing refers to them
pub record IsWork (b : Board) (work : List (ℕ × ℕ)) : Type 0 where
  pub differ : IsDistinct nat_eq (map (λ (p : ℕ × ℕ). p.0) work)
  pub live : AllByRecursion (λ (p : ℕ × ℕ). is_live b p.0 ≡ true) work
  pub free : AllByRecursion (λ (p : ℕ × ℕ). refs b p.0 ≡ 0) work

-- a board with its work comes to the same as another, of which all this is so again
pub record Turns (b : Board) (work : List (ℕ × ℕ)) (c : Board) (next : List (ℕ × ℕ)) : Type 0 where
  pub same : rest b work ≡ rest c next
  pub linked : IsLinked c
  pub left : IsWork c next

-- one turn of the work: an object ends that has no slot at its place; a slot is let go whose object then is free, and this object comes to the front; a slot is
-- let go, and nothing is free
pub record StackTurn (b : Board) (n i : ℕ) (work : List (ℕ × ℕ)) : Type 0 where
  pub ended : slot_at b n i ≡ None → Turns b ((n, i) ∷ work) (finish b n) work
  pub freed : (s : Slot) (m : ℕ) → slot_at b n i ≡ Some s → referent s ≡ Some m → refs (drop_slot b n i) m ≡ 0
      → Turns b ((n, i) ∷ work) (drop_slot b n i) ((m, 0) ∷ (n, next_index s i) ∷ work)
  pub kept : (s : Slot) → slot_at b n i ≡ Some s → ((m : ℕ) → referent s ≡ Some m → 0 < refs (drop_slot b n i) m)
      → Turns b ((n, i) ∷ work) (drop_slot b n i) ((n, next_index s i) ∷ work)

-- a weak link that sees no object that passes is emptied; an object of which each such link is
abbrev pub seen_in : (ℕ → Bool) → Slot → Slot
seen_in there (weak t (Some m)) = weak t (if there m then Some m else None)
seen_in there s = s

abbrev pub thinned : (ℕ → Bool) → Record → Record
thinned there r = record r { slots = map (λ (s : List ℕ × Slot). (s.0, seen_in there s.1)) r.slots }
