-- The first object from a birth on is that of the birth, or there is none of it.
use Rattle.std.proofs.Common.{◌≡◌, refl, ap, ◌∙◌, ℕ, ◌<◌, ◌≤◌, Bool, true, false, eqb, leb, List, [], ◌∷◌, find, Option, Some, None, option_map, arith}
use Rattle.std.proofs.lemmas.Bool.{eq-eqb}
use Rattle.std.proofs.lemmas.Bool.Decides.{nat_tests}
use Rattle.std.proofs.lemmas.Option.{same_Some}
use Rattle.qo_slots.specs.declared.keys.Key.{Key}
use Rattle.qo_heap.specs.Rows.{IsLive, Rises, births, object_at}
use Rattle.qo_object.specs.Content.{Content}
use Rattle.qo_heap.proofs.BoardEdits.{there-above}

-- the name of the first object from a birth on
abbrev pub first_from : ℕ → List (Key × Content) → Option Key
first_from n rows = option_map (λ (row : Key × Content). row.0) (find (λ (row : Key × Content). leb n row.0.birth) rows)

pub found-live : (n : ℕ) (rows : List (Key × Content)) (key : Key) → first_from n rows ≡ Some key → key.birth ≡ n → IsLive rows key
found-live n [] key e is = cc
found-live n (row ∷ rows) key e is = go (leb n row.0.birth) refl (found-live n rows key)
  where
    go : (b : Bool) → leb n row.0.birth ≡ b → (first_from n rows ≡ Some key → key.birth ≡ n → IsLive rows key) → IsLive (row ∷ rows) key
    go true p rest =
        let same : row.0 ≡ key = same_Some row.0 key (rw p at e) in
        let here : eqb row.0.birth key.birth ≡ true = eq-eqb row.0.birth key.birth (ap (λ (k : Key). k.birth) same) in
        rw here (ap (λ (k : Key). k.index) same)
    go false p rest =
        let other : eqb row.0.birth key.birth ≡ false = grind (arith, nat_tests, p, is) in
        rw other (rest (rw p at e) is)

pub found-none : (n : ℕ) (rows : List (Key × Content)) → first_from n rows ≡ None → object_at rows n ≡ None
found-none n [] e = refl
found-none n (row ∷ rows) e = go (leb n row.0.birth) refl (found-none n rows)
  where
    go : (b : Bool) → leb n row.0.birth ≡ b → (first_from n rows ≡ None → object_at rows n ≡ None) → object_at (row ∷ rows) n ≡ None
    go true p rest = absurd (let clash : Some row.0 ≡ None = rw p at e in cc)
    go false p rest =
        let other : eqb row.0.birth n ≡ false = grind (arith, nat_tests, p) in
        rw other (rest (rw p at e))

-- after a later birth there is none
pub later-none : (n above last : ℕ) (rows : List (Key × Content)) → n ≤ above → Rises above (births rows) last → object_at rows n ≡ None
later-none n above last rows le rises = go (object_at rows n) refl
  where
    go : (o : Option Content) → object_at rows n ≡ o → object_at rows n ≡ None
    go None p = p
    go (Some c) p = absurd (let up : above < n = there-above n above last rows c rises p in omega arith)

pub found-later : (n above last : ℕ) (rows : List (Key × Content)) (key : Key) → Rises above (births rows) last → first_from n rows ≡ Some key
    → eqb key.birth n ≡ false → object_at rows n ≡ None
found-later n above last [] key rises e not = refl
found-later n above last (row ∷ rows) key rises e not = go (leb n row.0.birth) refl (found-later n row.0.birth last rows key rises.1)
  where
    go : (b : Bool) → leb n row.0.birth ≡ b → (first_from n rows ≡ Some key → eqb key.birth n ≡ false → object_at rows n ≡ None)
        → object_at (row ∷ rows) n ≡ None
    go true p rest =
        let same : row.0 ≡ key = same_Some row.0 key (rw p at e) in
        let other : eqb row.0.birth n ≡ false = ap (λ (k : Key). eqb k.birth n) same ∙ not in
        let up : n ≤ row.0.birth = grind (arith, nat_tests, p) in
        rw other (later-none n row.0.birth last rows up rises.1)
    go false p rest =
        let other : eqb row.0.birth n ≡ false = grind (arith, nat_tests, p) in
        rw other (rest (rw p at e) not)
