-- The way down: where a name leads from an object of the heap.
use Rattle.std.proofs.Common.{◌≡◌, refl, ap, sym, ◌∙◌, ℕ, Bool, List, Option, Some, None, find, option_map, IfSome}
use Rattle.std.specs.Option.{option_and_then}
use Rattle.std.specs.Str.{bytes_eq}
use Rattle.qo_object.specs.Slots.{Named, target_of}
use Rattle.qo_object.specs.BoardObject.{birth_of, shown_slot}
use Rattle.qo_object.proofs.BoardObjectLemmas.{shown-target}
use Rattle.qo_model.specs.Board as board
use Rattle.qo_model.specs.Paths.{next_of}
use Rattle.qo_heap.specs.Rows.{IsLive}
use Rattle.qo_heap.specs.Objects.{IsHeap, Objects, slots_of}
use Rattle.qo_heap.specs.Board.{Shows}
use Rattle.qo_heap.proofs.BoardReads.{shows-slot_named}
use Rattle.qo_heap.proofs.HeapLemmas.{target-live}

-- a name leads to what its slot names
pub next-is : (b : board.Board) (v : Objects) → Shows b v → (n : ℕ) (name : List ℕ) (o : Option Named)
    → o ≡ find (λ (t : Named). bytes_eq name t.0) (slots_of v n) → next_of b n name ≡ birth_of (option_and_then (λ (t : Named). target_of t.1) o)
next-is b v s n name o there = ap (option_and_then board.target_of) (shows-slot_named b v s n name) ∙ rw (← there) (go o)
  where
    go : (x : Option Named) → option_and_then board.target_of (option_map shown_slot (option_map (λ (t : Named). t.1) x))
        ≡ birth_of (option_and_then (λ (t : Named). target_of t.1) x)
    go None = refl
    go (Some t) = shown-target t.1

-- and what a slot names is there
pub named-live : (v : Objects) → IsHeap v → (n : ℕ) (p : Named → Bool) → IfSome (option_and_then (λ (t : Named). target_of t.1) (find p (slots_of v n))) (IsLive v.rows)
named-live v good n p = go (find p (slots_of v n)) refl
  where
    go : (o : Option Named) → find p (slots_of v n) ≡ o → IfSome (option_and_then (λ (t : Named). target_of t.1) o) (IsLive v.rows)
    go None e = tt
    go (Some t) e = target-live v good n p t (sym e)
