-- What stands in the slots of an object, on the boards of the heap.
use Rattle.std.proofs.Common.{◌≡◌, refl, ap, sym, subst, ◌∙◌, ℕ, List, [], ◌∷◌, Option, Some, None, find, slice_get, option_map, IfSome}
use Rattle.std.specs.Option.{option_and_then, option_map_or}
use Rattle.std.specs.Str.{bytes_eq}
use Rattle.qo_slots.specs.declared.keys.Key.{Key}
use Rattle.qo_object.specs.declared.slots.Slot.{Slot}
use Rattle.qo_object.specs.Content.{Content}
use Rattle.qo_object.specs.BoardObject.{shown_slot, shown_slots}
use Rattle.qo_object.specs.Slots.{Named, target_of}
use Rattle.qo_object.proofs.BoardObjectLemmas.{slice_get-shown}
use Rattle.qo_model.specs.Board as board
use Rattle.qo_model.specs.Devices.{first_bus, found_at, kid_at, kid_name, strong_in}
use Rattle.qo_heap.specs.Objects.{Objects, content_of, slots_of}
use Rattle.qo_heap.specs.Board.{Shows}
use Rattle.qo_heap.proofs.BoardReads.{shows-slot_named, shows-slots}

-- what is read of the slot of a name
module _ {X : Type 0} (f : board.Slot → Option X) where
  read-found : (o : Option Named)
      → option_and_then f (option_map shown_slot (option_map (λ (t : Named). t.1) o)) ≡ option_and_then (λ (t : Named). f (shown_slot t.1)) o
  read-found None = refl
  read-found (Some t) = refl

  pub read-named : (b : board.Board) (v : Objects) → Shows b v → (n : ℕ) (name : List ℕ) (o : Option Named)
      → o ≡ find (λ (t : Named). bytes_eq name t.0) (slots_of v n)
      → option_and_then f (board.slot_named b n name) ≡ option_and_then (λ (t : Named). f (shown_slot t.1)) o
  read-named b v s n name o e =
      ap (option_and_then f) (shows-slot_named b v s n name ∙ ap (λ (p : Option Named). option_map shown_slot (option_map (λ (t : Named). t.1) p)) (sym e))
      ∙ read-found o

-- the slot at a place, and what is read of it
pub shows-place_at : (b : board.Board) (v : Objects) → Shows b v → (n i : ℕ) (o : Option Named) → o ≡ slice_get (slots_of v n) i
    → slice_get (board.slots_at b n) i ≡ option_map (λ (t : Named). (t.0, shown_slot t.1)) o
shows-place_at b v s n i o e =
    ap (λ (slots : List (List ℕ × board.Slot)). slice_get slots i) (shows-slots b v s n) ∙ slice_get-shown (slots_of v n) i
    ∙ ap (option_map (λ (t : Named). (t.0, shown_slot t.1))) (sym e)

module _ {X : Type 0} (f : List ℕ × board.Slot → Option X) where
  place-found : (o : Option Named)
      → option_and_then f (option_map (λ (t : Named). (t.0, shown_slot t.1)) o) ≡ option_and_then (λ (t : Named). f (t.0, shown_slot t.1)) o
  place-found None = refl
  place-found (Some t) = refl

  pub read-at : (b : board.Board) (v : Objects) → Shows b v → (n i : ℕ) (o : Option Named) → o ≡ slice_get (slots_of v n) i
      → option_and_then f (slice_get (board.slots_at b n) i) ≡ option_and_then (λ (t : Named). f (t.0, shown_slot t.1)) o
  read-at b v s n i o e = ap (option_and_then f) (shows-place_at b v s n i o e) ∙ place-found o

-- what is of what a slot names is of what is read of it as such
pub same-named : (P : Key → Type 0) (s : Slot) (o : Option Key) → IfSome o (λ (key : Key). target_of s ≡ Some key) → IfSome (target_of s) P → IfSome o P
same-named P s None is has = tt
same-named P s (Some key) is has = subst (λ (x : Option Key). IfSome x P) is has

-- where a bus is not there, no device is found from it
slots-gone : (b : board.Board) (v : Objects) → Shows b v → (n : ℕ) → content_of v n ≡ None → board.slots_at b n ≡ []
slots-gone b v s n gone = shows-slots b v s n ∙ ap (λ (o : Option Content). shown_slots (option_map_or (λ (c : Content). c.slots) o [])) gone

pub kid-gone : (b : board.Board) (v : Objects) → Shows b v → (n slot : ℕ) → content_of v n ≡ None → None ≡ kid_at b n slot
kid-gone b v s n slot gone =
    sym (ap (λ (slots : List (List ℕ × board.Slot)). option_and_then strong_in
    (option_map (λ (t : List ℕ × board.Slot). t.1) (find (λ (t : List ℕ × board.Slot). bytes_eq t.0 (kid_name slot)) slots))) (slots-gone b v s n gone))

pub found-gone : (b : board.Board) (v : Objects) → Shows b v → (n : ℕ) (slots : List ℕ) → content_of v n ≡ None → None ≡ found_at b n slots
found-gone b v s n [] gone = refl
found-gone b v s n (slot ∷ []) gone = kid-gone b v s n slot gone
found-gone b v s n (slot ∷ next ∷ slots) gone =
    ap (option_and_then (λ (d : ℕ). option_and_then (λ (m : ℕ). found_at b m (next ∷ slots)) (first_bus b d))) (kid-gone b v s n slot gone)
