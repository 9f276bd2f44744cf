-- Names that rise: one more after them, one fewer among them, and the last of them, which decides whether a name comes after all.
use Rattle.std.proofs.lemmas.Bool.{and_parts}
use Rattle.std.proofs.Common.{◌≡◌, ℕ, Bool, true, false, List, [], ◌∷◌, ◌++◌, refl, sym, ap, ◌∙◌}
use Rattle.std.specs.Prelude.{◌&&◌}
use Rattle.std.specs.Cmp.Lexicographic.{slice_cmp}
use Rattle.std.specs.List.{AllByRecursion}
use Rattle.std.specs.List.Sorted.{IsStrictlySortedBy}
use Rattle.std.specs.Ordering.{nat_cmp, is_lt}
use Rattle.std.specs.declared.cmp.Ordering.{Ordering}
use Rattle.std.specs.declared.cmp.Ordering.TheVariants.{Less, Equal, Greater}
use Rattle.std.proofs.lemmas.Cmp.{nat_list_cmp_total}
use Rattle.qo_values.specs.PropertyLists.{names_of, NamesRise, is_above}
use Rattle.qo_values.specs.declared.properties.Val.{Val}

-- how two names compare
abbrev order : List ℕ → List ℕ → Ordering
order = slice_cmp nat_cmp

-- all of xs are before all of ys, as far as one name goes
all_push : (P : List ℕ → Type 0) (xs : List (List ℕ)) (y : List ℕ) → AllByRecursion P xs → P y → AllByRecursion P (xs ++ y ∷ [])
all_push P [] y all here = (here, tt)
all_push P (x ∷ xs) y all here = (all.0, all_push P xs y all.1 here)

all_last : (P : List ℕ → Type 0) (xs : List (List ℕ)) (y : List ℕ) → AllByRecursion P (xs ++ y ∷ []) → P y
all_last P [] y all = all.0
all_last P (x ∷ xs) y all = all_last P xs y all.1

all_without : (P : List ℕ → Type 0) (xs ys : List (List ℕ)) (k : List ℕ) → AllByRecursion P (xs ++ k ∷ ys) → AllByRecursion P (xs ++ ys)
all_without P [] ys k all = all.1
all_without P (x ∷ xs) ys k all = (all.0, all_without P xs ys k all.1)

all_at : (P : List ℕ → Type 0) (xs ys : List (List ℕ)) (k : List ℕ) → AllByRecursion P (xs ++ k ∷ ys) → P k
all_at P [] ys k all = all.0
all_at P (x ∷ xs) ys k all = all_at P xs ys k all.1

less_from : (o : Ordering) → is_lt o ≡ true → o ≡ Less
less_from Less e = refl
less_from Equal e = cc
less_from Greater e = cc

and_false : (b : Bool) → (b && false) ≡ false
and_false true = refl
and_false false = refl

pub no_names_rise : NamesRise []
unfolding IsStrictlySortedBy
no_names_rise = tt

-- a name that comes after all goes after them
pub rises_push : (xs : List (List ℕ)) (k : List ℕ) → NamesRise xs → is_above xs k ≡ true → NamesRise (xs ++ k ∷ [])
unfolding IsStrictlySortedBy
rises_push [] k rises above = (tt, tt)
rises_push (x ∷ xs) k rises above =
    let here : (is_lt (order x k) ≡ true) × (is_above xs k ≡ true) = and_parts _ _ above in
    (all_push (λ y. order x y ≡ Less) xs k rises.0 (less_from _ here.0), rises_push xs k rises.1 here.1)

-- a name among them may go
pub rises_without : (xs ys : List (List ℕ)) (k : List ℕ) → NamesRise (xs ++ k ∷ ys) → NamesRise (xs ++ ys)
unfolding IsStrictlySortedBy
rises_without [] ys k rises = rises.1
rises_without (x ∷ xs) ys k rises = (all_without (λ y. order x y ≡ Less) xs ys k rises.0, rises_without xs ys k rises.1)

-- a name among them comes after all before it
pub above_those_before : (xs ys : List (List ℕ)) (k : List ℕ) → NamesRise (xs ++ k ∷ ys) → is_above xs k ≡ true
unfolding IsStrictlySortedBy
above_those_before [] ys k rises = refl
above_those_before (x ∷ xs) ys k rises = rw (all_at (λ y. order x y ≡ Less) xs ys k rises.0) (above_those_before xs ys k rises.1)

-- the last of them decides whether a name comes after all
pub last_decides : (xs : List (List ℕ)) (l k : List ℕ) → NamesRise (xs ++ l ∷ []) → is_lt (order l k) ≡ is_above (xs ++ l ∷ []) k
unfolding IsStrictlySortedBy
last_decides xs l k rises = by (is_lt (order l k)) refl
  where
    above : (xs : List (List ℕ)) → NamesRise (xs ++ l ∷ []) → order l k ≡ Less → is_above (xs ++ l ∷ []) k ≡ true
    above [] rises before = rw before refl
    above (x ∷ xs) rises before =
        let to_last : order x l ≡ Less = all_last (λ y. order x y ≡ Less) xs l rises.0 in
        rw (nat_list_cmp_total.trans x l k to_last before) (above xs rises.1 before)

    not_above : (xs : List (List ℕ)) → is_lt (order l k) ≡ false → is_above (xs ++ l ∷ []) k ≡ false
    not_above [] after = rw after refl
    not_above (x ∷ xs) after = rw (not_above xs after) (and_false _)

    by : (b : Bool) → is_lt (order l k) ≡ b → is_lt (order l k) ≡ is_above (xs ++ l ∷ []) k
    by true e = e ∙ sym (above xs rises (less_from _ e))
    by false e = e ∙ sym (not_above xs e)

-- ---- of properties

pub names_push : (pairs : List (List ℕ × Val)) (p : List ℕ × Val) → names_of (pairs ++ p ∷ []) ≡ names_of pairs ++ p.0 ∷ []
names_push [] p = refl
names_push (q ∷ qs) p = ap (λ names. q.0 ∷ names) (names_push qs p)

pub pairs_push : (pairs : List (List ℕ × Val)) (p : List ℕ × Val) → NamesRise (names_of pairs) → is_above (names_of pairs) p.0 ≡ true
    → NamesRise (names_of (pairs ++ p ∷ []))
pairs_push pairs p rises above = rw (names_push pairs p) (rises_push (names_of pairs) p.0 rises above)

pub last_pair_decides : (pairs front : List (List ℕ × Val)) (l : List ℕ × Val) (k : List ℕ) → pairs ≡ front ++ l ∷ [] → NamesRise (names_of pairs)
    → is_lt (order l.0 k) ≡ is_above (names_of pairs) k
last_pair_decides pairs front l k is rises =
    let names : names_of pairs ≡ names_of front ++ l.0 ∷ [] = ap names_of is ∙ names_push front l in
    rw names (last_decides (names_of front) l.0 k (rw names at rises))
