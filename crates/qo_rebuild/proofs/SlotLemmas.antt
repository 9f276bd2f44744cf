-- A slot among properties in byte order.
use Rattle.std.proofs.Common.{◌≡◌, refl, sym, ap, ◌∙◌, subst, ℕ, suc, ◌+◌, ◌≤◌, nat_lt, length, position, Some, None, Bool, true, false, not, cond, List, [], ◌∷◌, ◌++◌, codes, take, drop, append_assoc, arith, Ordering, Less, Equal, Greater, is_eq, bytes_eq}
use Rattle.std.proofs.lemmas.Bool.Decides.{nat_tests}
use Rattle.std.proofs.lemmas.Cmp.{nat_list_cmp_total}
use Rattle.std.proofs.lemmas.List.{map-append, take-append-drop}
use Rattle.std.proofs.lemmas.Map.Text.{is_eq-slice_cmp}
use Rattle.std.proofs.lemmas.Slice.Eq.{bytes_eq-Decides}
use Rattle.std.specs.Cmp.Lexicographic.{slice_cmp}
use Rattle.std.specs.List.{AllByRecursion, position_or_len}
use Rattle.std.specs.List.Sorted.{IsStrictlySortedBy}
use Rattle.std.specs.Ordering.{is_le, match_ordering, nat_cmp, ordering_reverse}
use Rattle.qo_values.specs.PropertyLists.{NamesRise, is_above, names_of}
use Rattle.qo_values.specs.declared.properties.Val.TheVariants as val
use Rattle.qo_values.proofs.NameOrder.{above_those_before}
use Rattle.qo_model.specs.Objects.{Given}
use Rattle.qo_save.specs.Rebuilding.{with_slot}
use Rattle.qo_rebuild.specs.Slots.{behind_slot, is_from_slot}

abbrev pub its_slot : ℕ → Given
its_slot slot = (codes "slot", val.Uint slot)

abbrev order : List ℕ → List ℕ → Ordering
order = slice_cmp nat_cmp

abbrev pub place : List Given → ℕ
place props = position_or_len is_from_slot props

abbrev pub front : List Given → List Given
front props = take (place props) props

abbrev pub back : List Given → List Given
back props = behind_slot (drop (place props) props)

-- those before it, it, and those behind it
pub split : (slot : ℕ) (props : List Given) → with_slot slot props ≡ front props ++ its_slot slot ∷ back props
split slot [] = refl
split slot (p ∷ props) = go (order (codes "slot") p.0) (is_eq-slice_cmp (codes "slot") p.0) (split slot props)
  where
    go : (o : Ordering) → is_eq o ≡ bytes_eq (codes "slot") p.0 → with_slot slot props ≡ front props ++ its_slot slot ∷ back props
        → match_ordering o (its_slot slot ∷ p ∷ props) (its_slot slot ∷ props) (p ∷ with_slot slot props)
        ≡ take (cond (not (is_le o)) (1 + place props) 0) (p ∷ props)
        ++ its_slot slot ∷ behind_slot (drop (cond (not (is_le o)) (1 + place props) 0) (p ∷ props))
    go Less eq rest = ap (λ (t : Bool). its_slot slot ∷ cond t props (p ∷ props)) eq
    go Equal eq rest = ap (λ (t : Bool). its_slot slot ∷ cond t props (p ∷ props)) eq
    go Greater eq rest =
        let one : suc (place props) ≡ 1 + place props = omega arith in
        ap (λ (l : List Given). p ∷ l) rest
        ∙ ap (λ (k : ℕ). take k (p ∷ props) ++ its_slot slot ∷ behind_slot (drop k (p ∷ props))) one

-- what holds of the names holds with that of the slot
all-with : (P : List ℕ → Type 0) (slot : ℕ) (props : List Given) → AllByRecursion P (names_of props) → P (codes "slot")
    → AllByRecursion P (names_of (with_slot slot props))
all-with P slot [] all here = (here, tt)
all-with P slot (p ∷ props) all here = go (order (codes "slot") p.0) (all-with P slot props all.1 here)
  where
    go : (o : Ordering) → AllByRecursion P (names_of (with_slot slot props))
        → AllByRecursion P (names_of (match_ordering o (its_slot slot ∷ p ∷ props) (its_slot slot ∷ props) (p ∷ with_slot slot props)))
    go Less rest = (here, (all.0, all.1))
    go Equal rest = (here, all.1)
    go Greater rest = (all.0, rest)

all-after : (x y : List ℕ) (names : List (List ℕ)) → order x y ≡ Less → AllByRecursion (λ z. order y z ≡ Less) names
    → AllByRecursion (λ z. order x z ≡ Less) names
all-after x y [] before all = tt
all-after x y (z ∷ names) before all = (nat_list_cmp_total.trans x y z before all.0, all-after x y names before all.1)

-- the names with that of the slot rise
pub with-rises : (slot : ℕ) (props : List Given) → NamesRise (names_of props) → NamesRise (names_of (with_slot slot props))
unfolding IsStrictlySortedBy
with-rises slot [] rise = (tt, tt)
with-rises slot (p ∷ props) rise = go (order (codes "slot") p.0) refl (with-rises slot props rise.1)
  where
    go : (o : Ordering) → order (codes "slot") p.0 ≡ o → NamesRise (names_of (with_slot slot props))
        → NamesRise (names_of (match_ordering o (its_slot slot ∷ p ∷ props) (its_slot slot ∷ props) (p ∷ with_slot slot props)))
    go Less is rest = ((is, all-after (codes "slot") p.0 (names_of props) is rise.0), rise)
    go Equal is rest =
        let same : codes "slot" ≡ p.0 = (bytes_eq-Decides (codes "slot") p.0).0 (sym (is_eq-slice_cmp (codes "slot") p.0) ∙ ap is_eq is) in
        subst (λ (name : List ℕ). NamesRise (name ∷ names_of props)) (sym same) rise
    go Greater is rest =
        let before : order p.0 (codes "slot") ≡ Less = nat_list_cmp_total.antisymm p.0 (codes "slot") ∙ ap ordering_reverse is in
        (all-with (λ z. order p.0 z ≡ Less) slot props rise.0 before, rest)

all-front : (P : List ℕ → Type 0) (xs ys : List (List ℕ)) → AllByRecursion P (xs ++ ys) → AllByRecursion P xs
all-front P [] ys all = tt
all-front P (x ∷ xs) ys all = (all.0, all-front P xs ys all.1)

front-rises : (xs ys : List (List ℕ)) → NamesRise (xs ++ ys) → NamesRise xs
unfolding IsStrictlySortedBy
front-rises [] ys rise = tt
front-rises (x ∷ xs) ys rise = (all-front (λ z. order x z ≡ Less) xs ys rise.0, front-rises xs ys rise.1)

abbrev name_of : Given → List ℕ
name_of p = p.0

-- those before it rise
pub before-rise : (props : List Given) → NamesRise (names_of props) → NamesRise (names_of (front props))
before-rise props rise =
    front-rises (names_of (front props)) (names_of (drop (place props) props))
    (subst NamesRise (sym (ap names_of (take-append-drop (place props) props)) ∙ map-append name_of (front props) (drop (place props) props)) rise)

whole-rise : (slot : ℕ) (props : List Given) → NamesRise (names_of props) → NamesRise (names_of (front props) ++ codes "slot" ∷ names_of (back props))
whole-rise slot props rise =
    subst NamesRise (ap names_of (split slot props) ∙ map-append name_of (front props) (its_slot slot ∷ back props)) (with-rises slot props rise)

-- its name comes after theirs, and those behind it after these
pub slot-above : (slot : ℕ) (props : List Given) → NamesRise (names_of props) → is_above (names_of (front props)) (codes "slot") ≡ true
slot-above slot props rise = above_those_before (names_of (front props)) (names_of (back props)) (codes "slot") (whole-rise slot props rise)

pub all-rise : (slot : ℕ) (props : List Given) → NamesRise (names_of props) → NamesRise (names_of ((front props ++ its_slot slot ∷ []) ++ back props))
all-rise slot props rise =
    subst NamesRise (ap names_of (split slot props ∙ sym (append_assoc (front props) (its_slot slot ∷ []) (back props)))) (with-rises slot props rise)

pub all-are : (slot : ℕ) (props : List Given) → (front props ++ its_slot slot ∷ []) ++ back props ≡ with_slot slot props
all-are slot props = append_assoc (front props) (its_slot slot ∷ []) (back props) ∙ sym (split slot props)

-- a property more
pub next-above : (props all : List Given) (p : Given) (rest left : List Given) → left ≡ p ∷ rest → props ++ left ≡ all → NamesRise (names_of all)
    → is_above (names_of props) p.0 ≡ true
next-above props all p rest left here so rise =
    above_those_before (names_of props) (names_of rest) p.0
    (subst NamesRise (ap names_of (sym so ∙ ap (λ (l : List Given). props ++ l) here) ∙ map-append name_of props (p ∷ rest)) rise)

pub next-put : (props all next : List Given) (p : Given) (rest left : List Given) → left ≡ p ∷ rest → props ++ left ≡ all → next ≡ props ++ p ∷ []
    → next ++ rest ≡ all
next-put props all next p rest left here so is =
    ap (λ (l : List Given). l ++ rest) is ∙ append_assoc props (p ∷ []) rest ∙ sym (ap (λ (l : List Given). props ++ l) here) ∙ so

-- the first place is no later than the last
past : (m n : ℕ) → nat_lt m n ≡ false → m ≤ n → n ≡ m
past m n e le = grind (arith, nat_tests)

module _ {X : Type 0} (p : X → Bool) where
  pub place-le : (xs : List X) → position_or_len p xs ≤ length xs
  place-le [] = omega arith
  place-le (x ∷ xs) = go (p x) refl (place-le xs)
    where
      go : (t : Bool) → p x ≡ t → position_or_len p xs ≤ length xs → position_or_len p (x ∷ xs) ≤ length (x ∷ xs)
      go true e le = rw e (omega arith)
      go false e le = rw e (omega (arith, le))

  pub place-none : (xs : List X) → None ≡ position p xs → length xs ≡ position_or_len p xs
  place-none xs h = go (nat_lt (position_or_len p xs) (length xs)) refl h
    where
      go : (t : Bool) → nat_lt (position_or_len p xs) (length xs) ≡ t → None ≡ cond t (Some (position_or_len p xs)) None → length xs ≡ position_or_len p xs
      go true e h = cc
      go false e h = past (position_or_len p xs) (length xs) e (place-le xs)
