-- How the slots of an object are listed, by the heap.
use Rattle.std.proofs.Common.{◌≡◌, refl, ap, sym, ◌∙◌, ℕ, zero, suc, List, [], ◌∷◌, map, slice_get, Option, Some, option_map, codes}
use Rattle.std.specs.Option.{option_map_or}
use Rattle.qo_values.specs.declared.properties.Val.{Val}
use Rattle.qo_values.specs.declared.kinds.TypeId.{TypeId}
use Rattle.qo_slots.specs.declared.keys.Key.{Key}
use Rattle.qo_object.specs.declared.slots.Slot.{Slot}
use Rattle.qo_object.specs.declared.slots.Slot.TheVariants.{Plain, Child}
use Rattle.qo_object.specs.Content.{Content}
use Rattle.qo_object.specs.BoardObject.{shown_slot, shown_slots}
use Rattle.qo_object.specs.Slots.{Named}
use Rattle.qo_model.specs.Board as board
use Rattle.qo_model.specs.Listing.{around, listing, own_text, plain_word, type_text}
use Rattle.qo_heap.specs.Objects.{Objects, content_of, slots_of}
use Rattle.qo_heap.specs.Board.{Shows}
use Rattle.qo_heap.proofs.BoardReads.{shows-kind, shows-slots}

-- a slot that is no alias

pub own-plain : (b : board.Board) (v : Objects) → Shows b v → (n : ℕ) (name : List ℕ) (kind : TypeId) → option_map (λ (c : Content). c.kind) (content_of v n)
    ≡ Some kind → (what : Slot) (val : Val) → what ≡ Plain val → plain_word kind name ≡ own_text b n name (shown_slot what)
own-plain b v s n name kind is what val e =
    let shown : board.kind_of b n ≡ Some kind = shows-kind b v s n ∙ is in
    rw e (sym (ap (λ (o : Option TypeId). option_map_or (λ (t : TypeId). plain_word t name) o []) shown))

pub own-child : (b : board.Board) (v : Objects) → Shows b v → (n : ℕ) (name : List ℕ) (key : Key) (kind : TypeId) → option_map (λ (c : Content). c.kind)
    (content_of v key.birth) ≡ Some kind → (what : Slot) → what ≡ Child key → around (codes "child") kind ≡ own_text b n name (shown_slot what)
own-child b v s n name key kind is what e =
    let shown : board.kind_of b key.birth ≡ Some kind = shows-kind b v s key.birth ∙ is in
    rw e (sym (ap (λ (o : Option TypeId). option_map_or (around (codes "child")) o []) shown))

-- all slots

abbrev pub line : board.Board → ℕ → Named → List ℕ × List ℕ
line b n t = (t.0, type_text b n (t.0, shown_slot t.1))

lines-shown : (b : board.Board) (n : ℕ) (slots : List Named)
    → map (λ (s : List ℕ × board.Slot). (s.0, type_text b n s)) (shown_slots slots) ≡ map (line b n) slots
lines-shown b n [] = refl
lines-shown b n (t ∷ slots) = ap (λ (l : List (List ℕ × List ℕ)). line b n t ∷ l) (lines-shown b n slots)

lines-all : (b : board.Board) (v : Objects) → Shows b v → (n : ℕ) → listing b n ≡ map (line b n) (slots_of v n)
lines-all b v s n = ap (map (λ (t : List ℕ × board.Slot). (t.0, type_text b n t))) (shows-slots b v s n) ∙ lines-shown b n (slots_of v n)

at-mapped : {X Y : Type 0} (f : X → Y) (xs : List X) (i : ℕ) → slice_get (map f xs) i ≡ option_map f (slice_get xs i)
at-mapped f [] i = refl
at-mapped f (x ∷ xs) zero = refl
at-mapped f (x ∷ xs) (suc i) = at-mapped f xs i

-- what is listed at a place is told of the slot there
pub line-at : (b : board.Board) (v : Objects) → Shows b v → (n i : ℕ) (o : Option Named) → o ≡ slice_get (slots_of v n) i
    → option_map (line b n) o ≡ slice_get (listing b n) i
line-at b v s n i o is =
    ap (option_map (line b n)) is ∙ sym (at-mapped (line b n) (slots_of v n) i)
    ∙ sym (ap (λ (l : List (List ℕ × List ℕ)). slice_get l i) (lines-all b v s n))
