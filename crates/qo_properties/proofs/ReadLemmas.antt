-- What is read of the board, by its heap.
use Rattle.std.proofs.Common.{◌≡◌, refl, ap, sym, ◌∙◌, ℕ, ◌+◌, Bool, true, false, not, ◌&&◌, eqb, List, [], ◌∷◌, map, filter, drop, find, slice_get, Option, Some, None, is_some, is_none, option_map, arith}
use Rattle.std.specs.Prelude.{filter_map}
use Rattle.std.specs.Option.{option_and_then, option_map_or}
use Rattle.std.specs.List.{cons_option}
use Rattle.std.specs.Str.{bytes_eq}
use Rattle.qo_values.specs.declared.kinds.TypeId.{TypeId}
use Rattle.qo_slots.specs.declared.keys.Key.{Key}
use Rattle.qo_object.specs.declared.slots.Slot.{Slot}
use Rattle.qo_object.specs.declared.slots.Slot.TheVariants.{Plain, Child, Link, Alias}
use Rattle.qo_object.specs.Content.{Content}
use Rattle.qo_object.specs.BoardObject.{birth_of, shown_slot}
use Rattle.qo_object.specs.Slots.{Named}
use Rattle.qo_model.specs.Board as board
use Rattle.qo_model.specs.Detachment.{detached_listed, detached_row}
use Rattle.qo_model.specs.Paths.{place_of}
use Rattle.qo_model.specs.Properties.{own_value, slot_value, value_of}
use Rattle.qo_model.specs.References.{refs}
use Rattle.qo_model.specs.declared.detached.Detached.{Detached}
use Rattle.qo_heap.specs.Objects as heap
use Rattle.qo_heap.specs.Objects.{IsHeap, Objects, content_of, refs_of, slots_of}
use Rattle.qo_heap.specs.Board.{Shows, record_of}
use Rattle.qo_heap.proofs.PlacesLemmas.{at-key, object-at-place}
use Rattle.qo_heap.proofs.BoardReads.{shows-parent, shows-refs, shows-slot_named}
use Rattle.qo_paths.proofs.EndLemmas.{given-drop}
use Rattle.qo_properties.specs.Reads.{derived_in, detached_in, is_derived, reads_derived}

-- objects without a parent

-- an object has a place where it has a parent
placed : (b : board.Board) (v : Objects) → Shows b v → (n : ℕ) → is_none (place_of b n) ≡ is_none (heap.parent_of v n)
placed b v s n = first (place_of b n) ∙ ap is_none (shows-parent b v s n) ∙ second (heap.parent_of v n)
  where
    first : (o : Option (ℕ × List ℕ)) → is_none o ≡ is_none (option_map (λ (p : ℕ × List ℕ). p.0) o)
    first None = refl
    first (Some p) = refl

    second : (o : Option Key) → is_none (birth_of o) ≡ is_none o
    second None = refl
    second (Some key) = refl

abbrev pub in_row : board.Board → Key × Content → Option Detached
in_row b row = detached_in b (record_of row)

pub detached-not : (b : board.Board) (v : Objects) → Shows b v → (i : ℕ) (key : Key) → Some key ≡ option_map (λ (row : Key × Content). row.0)
    (slice_get v.rows i) → not (eqb key.birth 1) && is_none (heap.parent_of v key.birth) ≡ false → None ≡ option_and_then (in_row b) (slice_get v.rows i)
detached-not b v s i key e fails =
    let (c, there) = at-key v.rows i key (sym e) in
    let test : not (eqb key.birth 1) && is_none (place_of b key.birth) ≡ false =
    ap (λ (t : Bool). not (eqb key.birth 1) && t) (placed b v s key.birth) ∙ fails in
    rw (there, test) refl

pub detached-is : (b : board.Board) (v : Objects) → Shows b v → IsHeap v → (i : ℕ) (key : Key) (count : ℕ) (kind : TypeId)
    → Some key ≡ option_map (λ (row : Key × Content). row.0) (slice_get v.rows i) → not (eqb key.birth 1) && is_none (heap.parent_of v key.birth) ≡ true
    → count ≡ refs_of v key.birth → option_map (λ (c : Content). c.kind) (content_of v key.birth) ≡ Some kind
    → Some (record { birth = key.birth; refs = count; kind = kind }) ≡ option_and_then (in_row b) (slice_get v.rows i)
detached-is b v s good i key count kind e passes counted is =
    let (c, there) = at-key v.rows i key (sym e) in
    let own : content_of v key.birth ≡ Some c = object-at-place v.born v.rows i key c good.rising there in
    let its : c.kind ≡ kind = cc (sym (ap (option_map (λ (d : Content). d.kind)) own) ∙ is) in
    let test : not (eqb key.birth 1) && is_none (place_of b key.birth) ≡ true =
    ap (λ (t : Bool). not (eqb key.birth 1) && t) (placed b v s key.birth) ∙ passes in
    let same : refs b key.birth ≡ count = shows-refs b v s good key.birth ∙ sym counted in
    rw (there, test) (λ j. Some (record { birth = key.birth; refs = sym same j; kind = sym its j }))

-- all of them, row by row
abbrev pub detached_after : board.Board → List (Key × Content) → ℕ → List Detached
detached_after b rows place = filter_map (in_row b) (drop place rows)

detached-rows : (b : board.Board) (rows : List (Key × Content))
    → map (detached_row b) (filter (λ (r : board.Record). not (eqb r.birth 1) && is_none (place_of b r.birth)) (map record_of rows))
    ≡ filter_map (in_row b) rows
detached-rows b [] = refl
detached-rows b (row ∷ rows) = go (not (eqb row.0.birth 1) && is_none (place_of b row.0.birth)) refl (detached-rows b rows)
  where
    go : (t : Bool) → not (eqb row.0.birth 1) && is_none (place_of b row.0.birth) ≡ t → map (detached_row b)
        (filter (λ (r : board.Record). not (eqb r.birth 1) && is_none (place_of b r.birth)) (map record_of rows)) ≡ filter_map (in_row b) rows
        → map (detached_row b)
        (filter (λ (r : board.Record). not (eqb r.birth 1) && is_none (place_of b r.birth)) (map record_of (row ∷ rows))) ≡ filter_map (in_row b) (row ∷ rows)
    go true is rest = rw is (ap (λ (l : List Detached). detached_row b (record_of row) ∷ l) rest)
    go false is rest = rw is rest

pub detached-all : (b : board.Board) (v : Objects) → Shows b v → detached_listed b ≡ detached_after b v.rows 0
detached-all b v s =
    ap (λ (rs : List board.Record). map (detached_row b) (filter (λ (r : board.Record). not (eqb r.birth 1) && is_none (place_of b r.birth)) rs)) s.records
    ∙ detached-rows b v.rows

-- those from a place on: first the one of the row at the place, if it gives one
pub given-next : {X Y : Type 0} (f : X → Option Y) (xs : List X) (i : ℕ) (o : Option Y) → o ≡ option_and_then f (slice_get xs i)
    → filter_map f (drop i xs) ≡ cons_option o (filter_map f (drop (i + 1) xs))
given-next f xs i o e = rw e (given-drop f xs i)

-- values

-- what a look-up by name finds is what the board has there
pub named-is : (b : board.Board) (v : Objects) → Shows b v → (n : ℕ) (name : List ℕ) (o : Option Named)
    → o ≡ find (λ (t : Named). bytes_eq name t.0) (slots_of v n) → board.slot_named b n name ≡ option_map shown_slot (option_map (λ (t : Named). t.1) o)
named-is b v s n name o e = shows-slot_named b v s n name ∙ ap (λ (p : Option Named). option_map shown_slot (option_map (λ (t : Named). t.1) p)) (sym e)

-- an object that is not there has no slot
pub named-gone : (b : board.Board) (v : Objects) → Shows b v → (n : ℕ) (name : List ℕ) → content_of v n ≡ None → board.slot_named b n name ≡ None
named-gone b v s n name gone =
    let none : slots_of v n ≡ [] = ap (λ (o : Option Content). option_map_or (λ (c : Content). c.slots) o []) gone in
    named-is b v s n name None (rw none refl)

-- a slot that is no alias reads as its own
pub read-own : (b : board.Board) (n : ℕ) (name : List ℕ) (s : Slot) → ((key : Key) (of : List ℕ) → s ≡ Alias key of → ⊥)
    → slot_value b n name (shown_slot s) ≡ Some (own_value b n name (shown_slot s))
read-own b n name (Plain val) other = refl
read-own b n name (Child key) other = refl
read-own b n name (Link ty true target) other = refl
read-own b n name (Link ty false target) other = refl
read-own b n name (Alias key of) other = absurd (other key of refl)

-- the test of an object that is not `/`
pub parent-test : (o : Option Key) (n : ℕ) (t : Bool) → is_some o ≡ t → (n ≡ 1 → ⊥) → not (eqb n 1) && is_none o ≡ not t
parent-test None n t is other = let no : eqb n 1 ≡ false = grind arith in rw (no, ← is) refl
parent-test (Some key) n t is other = let no : eqb n 1 ≡ false = grind arith in rw (no, ← is) refl

-- an alias reads as what it passes on to
module _ (b : board.Board) (v : Objects) (s : Shows b v) (n : ℕ) (name : List ℕ) (t : Named) where
  alias-there : Some t ≡ find (λ (t : Named). bytes_eq name t.0) (slots_of v n) → (key : Key) (of : List ℕ) → t.1 ≡ Alias key of
      → board.slot_named b n name ≡ Some (board.alias key.birth of)
  alias-there e key of is = named-is b v s n name (Some t) e ∙ ap (λ (x : Slot). Some (shown_slot x)) is

  pub read-alias : Some t ≡ find (λ (t : Named). bytes_eq name t.0) (slots_of v n) → (key : Key) (of : List ℕ) → t.1 ≡ Alias key of
      → option_map (own_value b key.birth of) (board.slot_named b key.birth of) ≡ value_of b n name
  read-alias e key of is = sym (ap (option_and_then (slot_value b n name)) (alias-there e key of is))

  -- a period by a source is read of a slot where it is read of what the alias passes on to, or of a slot that is none
  pub derived-alias : Some t ≡ find (λ (t : Named). bytes_eq name t.0) (slots_of v n) → (key : Key) (of : List ℕ) → t.1 ≡ Alias key of
      → reads_derived b n name ≡ is_derived b key.birth of
  derived-alias e key of is = ap (λ (o : Option board.Slot). option_map_or (derived_in b n name) o false) (alias-there e key of is)

  pub derived-own : Some t ≡ find (λ (t : Named). bytes_eq name t.0) (slots_of v n) → ((key : Key) (of : List ℕ) → t.1 ≡ Alias key of → ⊥)
      → reads_derived b n name ≡ is_derived b n name
  derived-own e other =
      ap (λ (o : Option board.Slot). option_map_or (derived_in b n name) o false) (named-is b v s n name (Some t) e) ∙ own t.1 other
    where
      own : (x : Slot) → ((key : Key) (of : List ℕ) → x ≡ Alias key of → ⊥) → derived_in b n name (shown_slot x) ≡ is_derived b n name
      own (Plain val) other = refl
      own (Child key) other = refl
      own (Link ty true target) other = refl
      own (Link ty false target) other = refl
      own (Alias key of) other = absurd (other key of refl)
