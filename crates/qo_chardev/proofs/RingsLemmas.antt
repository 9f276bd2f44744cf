-- The rings of a board: the first of an id is the only one.
use Rattle.std.proofs.Common.{◌≡◌, ◌∙◌, ℕ, zero, suc, ◌+◌, ◌<◌, Bool, true, false, not, cond, ◌||◌, if◌then◌else◌, List, [], ◌∷◌, ◌++◌, length, get_or, position, slice_set, set, find, Some, None, option_map, Result, Ok, Err, OnOk, OnErr, nat_lt, refl, ap, sym, arith}
use Rattle.std.proofs.lemmas.Bool.{or_parts}
use Rattle.std.proofs.lemmas.Bool.Decides.{nat_tests}
use Rattle.std.proofs.lemmas.Option.{none-some, same_Some, slice_get-get_or}
use Rattle.std.proofs.lemmas.Slice.Eq.{bytes_eq-Decides}
use Rattle.std.specs.List.{list_any, position_or_len}
use Rattle.std.specs.Str.{bytes_eq}
use Rattle.qo_values.proofs.ListLemmas.{position-find, position-none}
use Rattle.qo_values.specs.Rings.{RingBytes, ring_oldest}
use Rattle.qo_values.specs.declared.forms.Form.{Form}
use Rattle.qo_chardev.specs.Texts.{encoded}
use Rattle.qo_model.specs.Board.{Ring}
use Rattle.qo_chardev.specs.Rings.{IdsDiffer, bytes_in, is_ring, new_ring, ring_changed, ring_text, with_bytes, without_ring}

-- a ring as a description tells it
abbrev pub row : Ring → List ℕ × ℕ
row r = (r.id, r.size)

-- texts are compared either way round
bytes_eq-sym : (a b : List ℕ) → bytes_eq a b ≡ bytes_eq b a
bytes_eq-sym a b =
    by (bytes_eq a b) (bytes_eq b a) (λ e. (bytes_eq-Decides b a).1 (sym ((bytes_eq-Decides a b).0 e)))
    (λ e. (bytes_eq-Decides a b).1 (sym ((bytes_eq-Decides b a).0 e)))
  where
    by : (x y : Bool) → (x ≡ true → y ≡ true) → (y ≡ true → x ≡ true) → x ≡ y
    by true true to back = refl
    by false false to back = refl
    by true false to back = sym (to refl)
    by false true to back = back refl

-- those of another id stay
unchanged : (f : RingBytes → RingBytes) (id : List ℕ) (rings : List Ring) → list_any (is_ring id) rings ≡ false → ring_changed f id rings ≡ rings
unchanged f id [] none = refl
unchanged f id (r ∷ rs) none =
    let apart = or_parts (is_ring id r) (list_any (is_ring id) rs) none in
    rw (apart.0) (ap (λ rest. r ∷ rest) (unchanged f id rs apart.1))

-- the ids stay
ids-changed : (f : RingBytes → RingBytes) (id other : List ℕ) (rings : List Ring)
    → list_any (is_ring other) (ring_changed f id rings) ≡ list_any (is_ring other) rings
ids-changed f id other [] = refl
ids-changed f id other (r ∷ rs) = by (is_ring id r) (ap (λ c. is_ring other r || c) (ids-changed f id other rs))
  where
    by : (b : Bool) → is_ring other r || list_any (is_ring other) (ring_changed f id rs) ≡ is_ring other r || list_any (is_ring other) rs
        → is_ring other (if b then with_bytes f r else r) || list_any (is_ring other) (ring_changed f id rs) ≡ is_ring other r || list_any (is_ring other) rs
    by true rest = rest
    by false rest = rest

pub differ-changed : (f : RingBytes → RingBytes) (id : List ℕ) (rings : List Ring) → IdsDiffer rings → IdsDiffer (ring_changed f id rings)
differ-changed f id [] differ = differ
differ-changed f id (r ∷ rs) differ = by (is_ring id r) (differ-changed f id rs differ.1)
  where
    by : (b : Bool) → IdsDiffer (ring_changed f id rs) → IdsDiffer ((if b then with_bytes f r else r) ∷ ring_changed f id rs)
    by true rest = (ids-changed f id r.id rs ∙ differ.0, rest)
    by false rest = (ids-changed f id r.id rs ∙ differ.0, rest)

any-without : (id other : List ℕ) (rings : List Ring) → list_any (is_ring other) rings ≡ false → list_any (is_ring other) (without_ring id rings) ≡ false
any-without id other [] none = none
any-without id other (r ∷ rs) none =
    let apart = or_parts (is_ring other r) (list_any (is_ring other) rs) none in
    by (is_ring id r) apart.0 (any-without id other rs apart.1)
  where
    by : (b : Bool) → is_ring other r ≡ false → list_any (is_ring other) (without_ring id rs) ≡ false
        → list_any (is_ring other) (cond (not b) (r ∷ without_ring id rs) (without_ring id rs)) ≡ false
    by true first rest = rest
    by false first rest = rw first rest

pub differ-without : (id : List ℕ) (rings : List Ring) → IdsDiffer rings → IdsDiffer (without_ring id rings)
differ-without id [] differ = differ
differ-without id (r ∷ rs) differ = by (is_ring id r) (differ-without id rs differ.1)
  where
    by : (b : Bool) → IdsDiffer (without_ring id rs) → IdsDiffer (cond (not b) (r ∷ without_ring id rs) (without_ring id rs))
    by true rest = rest
    by false rest = (any-without id r.id rs differ.0, rest)

any-added : (id other : List ℕ) (size : ℕ) (rings : List Ring) → list_any (is_ring other) rings ≡ false → bytes_eq id other ≡ false
    → list_any (is_ring other) (rings ++ new_ring id size ∷ []) ≡ false
any-added id other size [] none apart = rw apart refl
any-added id other size (r ∷ rs) none apart =
    let both = or_parts (is_ring other r) (list_any (is_ring other) rs) none in
    rw (both.0) (any-added id other size rs both.1 apart)

pub differ-added : (id : List ℕ) (size : ℕ) (rings : List Ring) → IdsDiffer rings → list_any (is_ring id) rings ≡ false
    → IdsDiffer (rings ++ new_ring id size ∷ [])
differ-added id size [] differ free = (refl, tt)
differ-added id size (r ∷ rs) differ free =
    let apart = or_parts (is_ring id r) (list_any (is_ring id) rs) free in
    (any-added id r.id size rs differ.0 (bytes_eq-sym id r.id ∙ apart.0), differ-added id size rs differ.1 apart.1)

-- where an id was found, others of it are none
none-after : (id : List ℕ) (r : Ring) (rs : List Ring) → is_ring id r ≡ true → list_any (is_ring r.id) rs ≡ false → list_any (is_ring id) rs ≡ false
none-after id r rs found none = ap (λ i. list_any (is_ring i) rs) (sym ((bytes_eq-Decides r.id id).0 found)) ∙ none

-- the first is changed, and so is each
changed-first : (f : RingBytes → RingBytes) (id : List ℕ) (d : Ring) (rings : List Ring) (at : ℕ) → IdsDiffer rings
    → at ≡ position_or_len (is_ring id) rings → at < length rings → set rings at (with_bytes f (get_or rings at d)) ≡ ring_changed f id rings
changed-first f id d [] at differ is low = absurd (omega arith)
changed-first f id d (r ∷ rs) zero differ is low = by (is_ring id r) refl is
  where
    by : (b : Bool) → is_ring id r ≡ b → zero ≡ cond (not b) (1 + position_or_len (is_ring id) rs) 0
        → with_bytes f r ∷ rs ≡ (if b then with_bytes f r else r) ∷ ring_changed f id rs
    by true found same = ap (λ rest. with_bytes f r ∷ rest) (sym (unchanged f id rs (none-after id r rs found differ.0)))
    by false found same = absurd (omega arith)
changed-first f id d (r ∷ rs) (suc at) differ is low = by (is_ring id r) is (λ same. changed-first f id d rs at differ.1 same (omega arith))
  where
    by : (b : Bool) → suc at ≡ cond (not b) (1 + position_or_len (is_ring id) rs) 0
        → (at ≡ position_or_len (is_ring id) rs → set rs at (with_bytes f (get_or rs at d)) ≡ ring_changed f id rs)
        → r ∷ set rs at (with_bytes f (get_or rs at d)) ≡ (if b then with_bytes f r else r) ∷ ring_changed f id rs
    by true same rest = absurd (omega arith)
    by false same rest = ap (λ more. r ∷ more) (rest (omega arith))

any-none : {X : Type 0} (test : X → Bool) (xs : List X) → find test xs ≡ None → list_any test xs ≡ false
any-none test [] none = refl
any-none test (x ∷ xs) none = by (test x) none (any-none test xs)
  where
    by : (b : Bool) → cond b (Some x) (find test xs) ≡ None → (find test xs ≡ None → list_any test xs ≡ false) → b || list_any test xs ≡ false
    by true same rest = absurd (none-some x (sym same))
    by false same rest = rest same

-- what the place of the first that passes says
module _ {X : Type 0} (test : X → Bool) (xs : List X) where
  placed : (at : ℕ) → position test xs ≡ Some at → (at ≡ position_or_len test xs) × (at < length xs)
  placed at found = by (nat_lt (position_or_len test xs) (length xs)) refl found
    where
      by : (b : Bool) → nat_lt (position_or_len test xs) (length xs) ≡ b → cond b (Some (position_or_len test xs)) None ≡ Some at
          → (at ≡ position_or_len test xs) × (at < length xs)
      by true is same = let e : position_or_len test xs ≡ at = same_Some (position_or_len test xs) at same in (sym e, grind (arith, nat_tests))
      by false is same = absurd (none-some at same)

  pub named-at : (at : ℕ) (x : X) → position test xs ≡ Some at → x ≡ get_or xs at x → find test xs ≡ Some x
  named-at at x found is = sym (position-find test xs at found) ∙ slice_get-get_or xs at x (placed at found).1 ∙ ap Some (sym is)

pub changed-at : (f : RingBytes → RingBytes) (id : List ℕ) (rings : List Ring) (at : ℕ) (r : Ring) → IdsDiffer rings → position (is_ring id) rings ≡ Some at
    → r ≡ get_or rings at r → slice_set rings at (with_bytes f r) ≡ ring_changed f id rings
changed-at f id rings at r differ found is =
    let place = placed (is_ring id) rings at found in
    ap (λ x. set rings at (with_bytes f x)) is ∙ changed-first f id r rings at differ place.0 place.1

-- and what it came to stands there
pub changed-to : (f : RingBytes → RingBytes) (id : List ℕ) (rings : List Ring) (at : ℕ) (r new : Ring) → IdsDiffer rings → position (is_ring id) rings ≡ Some at
    → r ≡ get_or rings at r → new ≡ with_bytes f r → slice_set rings at new ≡ ring_changed f id rings
changed-to f id rings at r new differ found is to = ap (λ x. slice_set rings at x) to ∙ changed-at f id rings at r differ found is

pub changed-none : (f : RingBytes → RingBytes) (id : List ℕ) (rings : List Ring) → position (is_ring id) rings ≡ None → ring_changed f id rings ≡ rings
changed-none f id rings none = unchanged f id rings (any-none (is_ring id) rings (position-none (is_ring id) rings none))

pub differ-set : (f : RingBytes → RingBytes) (id : List ℕ) (rings : List Ring) (at : ℕ) (r : Ring) → IdsDiffer rings → position (is_ring id) rings ≡ Some at
    → r ≡ get_or rings at r → IdsDiffer (slice_set rings at (with_bytes f r))
differ-set f id rings at r differ found is = rw (changed-at f id rings at r differ found is) (differ-changed f id rings differ)

-- one ring more, or not
pub differ-pushed : (id : List ℕ) (size : ℕ) (rings : List Ring) (pushed : Bool) → IdsDiffer rings → list_any (is_ring id) rings ≡ false
    → IdsDiffer (if pushed then rings ++ new_ring id size ∷ [] else rings)
differ-pushed id size rings true differ free = differ-added id size rings differ free
differ-pushed id size rings false differ free = differ

-- the text that is told of the ring at a place
pub text-at : (id : List ℕ) (most : ℕ) (form : Form) (rings : List Ring) (at : ℕ) (r : Ring) → position (is_ring id) rings ≡ Some at → r ≡ get_or rings at r
    → ring_text id most form rings ≡ Some (encoded form (ring_oldest (bytes_in r) most))
text-at id most form rings at r found is =
    ap (option_map (λ (x : Ring). encoded form (ring_oldest (bytes_in x) most))) (named-at (is_ring id) rings at r found is)

pub text-none : (id : List ℕ) (most : ℕ) (form : Form) (rings : List Ring) → position (is_ring id) rings ≡ None → ring_text id most form rings ≡ None
text-none id most form rings none = ap (option_map (λ (x : Ring). encoded form (ring_oldest (bytes_in x) most))) (position-none (is_ring id) rings none)

-- a ring at a place whose bytes were changed, or which an error left
pub differ-answered : {T E : Type 0} (answer : Result T E) (id : List ℕ) (rings : List Ring) (at : ℕ) (r new : Ring) → IdsDiffer rings
    → position (is_ring id) rings ≡ Some at → r ≡ get_or rings at r → OnOk answer ((f : RingBytes → RingBytes) × (new ≡ with_bytes f r))
    → OnErr answer (new ≡ r)
    → IdsDiffer (slice_set rings at new)
differ-answered (Ok x) id rings at r new differ found is ok err = rw (ok.1) (differ-set ok.0 id rings at r differ found is)
differ-answered (Err e) id rings at r new differ found is ok err = rw err (differ-set (λ m. m) id rings at r differ found is)
