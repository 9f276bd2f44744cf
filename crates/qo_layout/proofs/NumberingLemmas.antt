-- How the list of objects grows, slot after slot.
use Rattle.std.proofs.Common.{◌≡◌, append_assoc, append-nil, refl, ap, sym, ◌∙◌, ℕ, zero, suc, ◌+◌, ◌<◌, ◌≤◌, Bool, true, false, cond, not, eqb, ltb, List, [], ◌∷◌, ◌++◌, filter_map, length, slice_get, take, option_and_then, Option, Some, None, codes, arith}
use Rattle.std.specs.List.{cons_option, flat_map, position, position_or_len}
use Rattle.std.specs.Option.{option_map_or}
use Rattle.std.proofs.lemmas.Bool.{ltb-false}
use Rattle.std.proofs.lemmas.List.{length-map, take_all}
use Rattle.std.proofs.lemmas.Option.{same_Some}
use Rattle.qo_slots.specs.declared.keys.Key.{Key}
use Rattle.qo_model.specs.Board.{Board, Slot, slots_at}
use Rattle.qo_model.specs.Paths.{births, is_of}
use Rattle.qo_model.specs.Reset.{below, post}
use Rattle.qo_object.specs.Content.{Content}
use Rattle.qo_object.specs.BoardObject.{shown_slot}
use Rattle.qo_object.specs.Slots.{Named}
use Rattle.qo_model.specs.Types.{is_a}
use Rattle.qo_heap.specs.Board.{Shows}
use Rattle.qo_heap.specs.Objects.{Objects, content_of, slots_of}
use Rattle.qo_heap.proofs.BoardReads.{shows-of, shows-size, shows-slots}
use Rattle.qo_layout.specs.Numbering.{NoneBefore, below_in, births_of, post_at, post_within}

-- one slot more
module _ {X : Type 0} (f : ℕ → List ℕ) (g : X → Option ℕ) where
  one-mapped : (o : Option ℕ) → flat_map f (cons_option o []) ≡ option_map_or f o []
  one-mapped None = refl
  one-mapped (Some m) = append-nil (f m)

  more-mapped : (o : Option ℕ) (ms : List ℕ) → flat_map f (cons_option o ms) ≡ option_map_or f o [] ++ flat_map f ms
  more-mapped None ms = refl
  more-mapped (Some m) ms = refl

  pub mapped-next : (xs : List X) (i : ℕ) → i < length xs
      → flat_map f (filter_map g (take (i + 1) xs)) ≡ flat_map f (filter_map g (take i xs)) ++ option_map_or f (option_and_then g (slice_get xs i)) []
  mapped-next [] i low = absurd (omega arith)
  mapped-next (x ∷ xs) zero low = one-mapped (g x)
  mapped-next (x ∷ xs) (suc i) low =
      let next : suc i + 1 ≡ suc (i + 1) = omega arith in
      ap (λ (n : ℕ). flat_map f (filter_map g (take n (x ∷ xs)))) next ∙ more-mapped (g x) (filter_map g (take (i + 1) xs))
      ∙ ap (λ (ms : List ℕ). option_map_or f (g x) [] ++ ms) (mapped-next xs i (omega arith))
      ∙ sym (append_assoc (option_map_or f (g x) []) (flat_map f (filter_map g (take i xs))) (option_map_or f (option_and_then g (slice_get xs i)) []))
      ∙ ap (λ (ms : List ℕ). ms ++ option_map_or f (option_and_then g (slice_get xs i)) []) (sym (more-mapped (g x) (filter_map g (take i xs))))

-- an object has as many slots on the board as in the heap
pub slots-shown : (b : Board) (v : Objects) → Shows b v → (n : ℕ) → length (slots_at b n) ≡ length (slots_of v n)
slots-shown b v s n =
    ap (λ (xs : List (List ℕ × Slot)). length xs) (shows-slots b v s n) ∙ length-map (slots_of v n) (λ (t : Named). (t.0, shown_slot t.1))

pub listed-first : (b : Board) (levels n at : ℕ) (bus : Bool) (old : List ℕ) → bus ≡ is_of b (codes "bus") n → NoneBefore b n at
    → old ≡ old ++ flat_map (post_within b levels) (filter_map (below_in b bus) (take at (slots_at b n)))
listed-first b levels n at bus old is none = rw (is, none) (sym (append-nil old))

pub listed-next : (b : Board) (v : Objects) → Shows b v → (levels n at count : ℕ) (bus : Bool) (first old new : List ℕ) → count ≡ length (slots_of v n) → at < count
    → old ≡ first ++ flat_map (post_within b levels) (filter_map (below_in b bus) (take at (slots_at b n)))
    → new ≡ old ++ post_at b levels bus n at
    → new ≡ first ++ flat_map (post_within b levels) (filter_map (below_in b bus) (take (at + 1) (slots_at b n)))
listed-next b v s levels n at count bus first old new all low before more =
    more ∙ ap (λ (ms : List ℕ). ms ++ post_at b levels bus n at) before
    ∙ append_assoc first (flat_map (post_within b levels) (filter_map (below_in b bus) (take at (slots_at b n)))) (post_at b levels bus n at)
    ∙ ap (λ (ms : List ℕ). first ++ ms)
    (sym (mapped-next (post_within b levels) (below_in b bus) (slots_at b n) at (omega (arith, slots-shown b v s n, all, low))))

-- all slots, and the object itself
pub below-all : (b : Board) (n : ℕ) (bus : Bool) → bus ≡ is_of b (codes "bus") n → filter_map (below_in b bus) (slots_at b n) ≡ below b n
below-all b n true e = rw (← e) refl
below-all b n false e = rw (← e) refl

births-push : (objects : List Key) (o : Key) → births_of (objects ++ o ∷ []) ≡ births_of objects ++ o.birth ∷ []
births-push [] o = refl
births-push (x ∷ objects) o = ap (λ (ms : List ℕ). x.birth ∷ ms) (births-push objects o)

pub listed-all : (b : Board) (v : Objects) → Shows b v → (levels at : ℕ) (o : Key) (bus : Bool) (first : List ℕ) (objects : List Key)
    → bus ≡ is_of b (codes "bus") o.birth → at ≡ length (slots_of v o.birth)
    → births_of objects ≡ first ++ flat_map (post_within b levels) (filter_map (below_in b bus) (take at (slots_at b o.birth)))
    → births_of (objects ++ o ∷ []) ≡ first ++ post_within b (suc levels) o.birth
listed-all b v s levels at o bus first objects is all before =
    births-push objects o ∙ ap (λ (ms : List ℕ). ms ++ o.birth ∷ []) before
    ∙ append_assoc first (flat_map (post_within b levels) (filter_map (below_in b bus) (take at (slots_at b o.birth)))) (o.birth ∷ [])
    ∙ ap (λ (xs : List (List ℕ × Slot)). first ++ (flat_map (post_within b levels) (filter_map (below_in b bus) xs) ++ o.birth ∷ []))
    (take_all at (slots_at b o.birth) (omega (arith, slots-shown b v s o.birth, all)))
    ∙ ap (λ (ms : List ℕ). first ++ (flat_map (post_within b levels) ms ++ o.birth ∷ [])) (below-all b o.birth bus is)

-- to the depth that the number of objects allows
pub listed-whole : (b : Board) (v : Objects) → Shows b v → (levels n : ℕ) → levels ≡ length v.rows + 1 → post_within b levels n ≡ post b n
unfolding post
listed-whole b v s levels n e =
    let same : levels ≡ suc (length (births b)) = omega (arith, e, shows-size b v s) in
    ap (λ (k : ℕ). post_within b k n) same

-- what is not there is of no type
pub absent-none : (b : Board) (v : Objects) → Shows b v → (wanted : List ℕ) (n : ℕ) → content_of v n ≡ None → is_of b wanted n ≡ true → ⊥
absent-none b v s wanted n gone is =
    absurd
    (let clash : false ≡ true = sym (shows-of b v s wanted n ∙ ap (λ (o : Option Content). option_map_or (λ (c : Content). is_a c.kind wanted) o false) gone) ∙ is in
    cc)

-- the place of a birth
place-same : (birth : ℕ) (objects : List Key) → position_or_len (λ (o : Key). eqb birth o.birth) objects ≡ position_or_len (eqb birth) (births_of objects)
place-same birth [] = refl
place-same birth (o ∷ objects) = ap (λ (n : ℕ). cond (not (eqb birth o.birth)) (1 + n) 0) (place-same birth objects)

pub number_there : (birth at : ℕ) (objects : List Key) → Some at ≡ position (λ (o : Key). eqb birth o.birth) objects
    → at ≡ position_or_len (eqb birth) (births_of objects)
number_there birth at objects e = go (ltb (position_or_len (λ (o : Key). eqb birth o.birth) objects) (length objects)) refl
  where
    go : (t : Bool) → ltb (position_or_len (λ (o : Key). eqb birth o.birth) objects) (length objects) ≡ t
        → at ≡ position_or_len (eqb birth) (births_of objects)
    go true p = same_Some at (position_or_len (λ (o : Key). eqb birth o.birth) objects) (rw p at e) ∙ place-same birth objects
    go false p = absurd (let none : Some at ≡ None = rw p at e in cc)

prefix-most : (birth : ℕ) (objects : List Key) → position_or_len (λ (o : Key). eqb birth o.birth) objects ≤ length objects
prefix-most birth [] = omega arith
prefix-most birth (o ∷ objects) = go (eqb birth o.birth) refl (prefix-most birth objects)
  where
    go : (t : Bool) → eqb birth o.birth ≡ t → position_or_len (λ (x : Key). eqb birth x.birth) objects ≤ length objects
        → cond (not (eqb birth o.birth)) (1 + position_or_len (λ (x : Key). eqb birth x.birth) objects) 0 ≤ length (o ∷ objects)
    go true p rest = rw p (omega arith)
    go false p rest = rw p (omega (arith, rest))

pub number_absent : (birth : ℕ) (objects : List Key) → None ≡ position (λ (o : Key). eqb birth o.birth) objects
    → length objects ≡ position_or_len (eqb birth) (births_of objects)
number_absent birth objects e = go (ltb (position_or_len (λ (o : Key). eqb birth o.birth) objects) (length objects)) refl
  where
    go : (t : Bool) → ltb (position_or_len (λ (o : Key). eqb birth o.birth) objects) (length objects) ≡ t
        → length objects ≡ position_or_len (eqb birth) (births_of objects)
    go true p =
        absurd (let none : None ≡ Some (position_or_len (λ (o : Key). eqb birth o.birth) objects) = rw p at e in cc)
    go false p =
        let past = ltb-false (position_or_len (λ (o : Key). eqb birth o.birth) objects) (length objects) p in
        omega (arith, past, prefix-most birth objects, place-same birth objects)
