-- The list of holds: the place of one, a hold less, and one that is taken after the others.
use Rattle.std.proofs.Common.{◌≡◌, refl, ap, sym, ◌∙◌, ℕ, suc, not, cond, Bool, true, false, List, [], ◌∷◌, ◌++◌, length, filter, nat_eq, nat_lt, ◌<◌, position, remove, slice_index_or, Option, Some, None, ◌+◌, arith}
use Rattle.std.specs.Prelude.{◌||◌}
use Rattle.std.specs.List.{position_or_len}
use Rattle.std.proofs.lemmas.Bool.{eq-eqb}
use Rattle.std.proofs.lemmas.Bool.Decides.{nat_tests}
use Rattle.std.proofs.lemmas.Option.{same_Some}
use Rattle.qo_slots.specs.declared.keys.Key.{Key}
use Rattle.qo_model.specs.Depth.{among}
use Rattle.qo_model.specs.Release.{without_first}
use Rattle.qo_model.specs.Unplug.{without_all}
use Rattle.qo_reset.specs.Phases.{births_of}

-- the first hold on the object of a birth

abbrev pub hold_index : ℕ → List Key → Option ℕ
hold_index n holds = position (λ (k : Key). nat_eq k.birth n) holds

abbrev place : ℕ → List Key → ℕ
place n holds = position_or_len (λ (k : Key). nat_eq k.birth n) holds

place-is : (n : ℕ) (holds : List Key) (i : ℕ) → hold_index n holds ≡ Some i → place n holds ≡ i
place-is n holds i e = go (nat_lt (place n holds) (length holds)) e
  where
    go : (t : Bool) → cond t (Some (place n holds)) None ≡ Some i → place n holds ≡ i
    go true is = same_Some (place n holds) i is
    go false is = cc

pub place-below : (n : ℕ) (holds : List Key) (i : ℕ) → hold_index n holds ≡ Some i → i < length holds
place-below n holds i e = go (nat_lt (place n holds) (length holds)) refl e
  where
    go : (t : Bool) → nat_lt (place n holds) (length holds) ≡ t → cond t (Some (place n holds)) None ≡ Some i → i < length holds
    go true lt is =
        let same : place n holds ≡ i = same_Some (place n holds) i is in
        let low : place n holds < length holds = grind (arith, nat_tests) in
        omega (arith, same, low)
    go false lt is = cc

-- a hold less

abbrev from : Bool → ℕ → ℕ
from t i = cond (not t) (1 + i) 0

less-there : (n : ℕ) (holds : List Key) → births_of (remove holds (place n holds)) ≡ without_first n (births_of holds)
less-there n [] = refl
less-there n (k ∷ holds) = go (nat_eq k.birth n) (less-there n holds)
  where
    go : (t : Bool) → births_of (remove holds (place n holds)) ≡ without_first n (births_of holds)
        → births_of (remove (k ∷ holds) (from t (place n holds))) ≡ cond t (births_of holds) (k.birth ∷ without_first n (births_of holds))
    go true rest = refl
    go false rest =
        let one : 1 + place n holds ≡ suc (place n holds) = omega arith in
        ap (λ (d : ℕ). births_of (remove (k ∷ holds) d)) one ∙ ap (λ (l : List ℕ). k.birth ∷ l) rest

pub less-hold : (n : ℕ) (holds : List Key) (i : ℕ) → hold_index n holds ≡ Some i → births_of (remove holds i) ≡ without_first n (births_of holds)
less-hold n holds i e = ap (λ (j : ℕ). births_of (remove holds j)) (sym (place-is n holds i e)) ∙ less-there n holds

-- it is the hold of the birth

born-there : (n : ℕ) (holds : List Key) (d : Key) → place n holds < length holds → (slice_index_or holds (place n holds) d).birth ≡ n
born-there n [] d low = absurd (let no : ⊥ = omega (arith, low) in no)
born-there n (k ∷ holds) d low = go (nat_eq k.birth n) refl low (born-there n holds d)
  where
    go : (t : Bool) → nat_eq k.birth n ≡ t → from t (place n holds) < length (k ∷ holds)
        → (place n holds < length holds → (slice_index_or holds (place n holds) d).birth ≡ n) → (slice_index_or (k ∷ holds) (from t (place n holds)) d).birth ≡
        n
    go true e below rest = grind (arith, nat_tests, e)
    go false e below rest =
        let one : 1 + place n holds ≡ suc (place n holds) = omega arith in
        let low : place n holds < length holds = omega (arith, below) in
        ap (λ (j : ℕ). (slice_index_or (k ∷ holds) j d).birth) one ∙ rest low

pub born-place : (n : ℕ) (holds : List Key) (i : ℕ) (d : Key) → hold_index n holds ≡ Some i → (slice_index_or holds i d).birth ≡ n
born-place n holds i d e =
    let same : place n holds ≡ i = place-is n holds i e in
    let low : place n holds < length holds = let below = place-below n holds i e in omega (arith, same, below) in
    ap (λ (j : ℕ). (slice_index_or holds j d).birth) (sym same) ∙ born-there n holds d low

-- a hold more

pub births-more : (holds : List Key) (k : Key) → births_of (holds ++ k ∷ []) ≡ births_of holds ++ k.birth ∷ []
births-more [] k = refl
births-more (h ∷ holds) k = ap (λ (l : List ℕ). h.birth ∷ l) (births-more holds k)

-- whether there is one

turned : (n m : ℕ) → nat_eq n m ≡ nat_eq m n
turned n m = grind (arith, nat_tests)

some-there : (n : ℕ) (holds : List Key) → nat_lt (place n holds) (length holds) ≡ among (births_of holds) n
some-there n [] = refl
some-there n (k ∷ holds) = go (nat_eq k.birth n) (some-there n holds) ∙ ap (λ (t : Bool). t || among (births_of holds) n) (turned k.birth n)
  where
    go : (t : Bool) → nat_lt (place n holds) (length holds) ≡ among (births_of holds) n
        → nat_lt (cond (not t) (1 + place n holds) 0) (length (k ∷ holds)) ≡ (t || among (births_of holds) n)
    go true rest = grind (arith, nat_tests)
    go false rest =
        let same : nat_lt (1 + place n holds) (length (k ∷ holds)) ≡ nat_lt (place n holds) (length holds) = grind (arith, nat_tests) in
        same ∙ rest

pub place-some : (n : ℕ) (holds : List Key) (i : ℕ) → hold_index n holds ≡ Some i → among (births_of holds) n ≡ true
place-some n holds i e = sym (some-there n holds) ∙ go (nat_lt (place n holds) (length holds)) e
  where
    go : (t : Bool) → cond t (Some (place n holds)) None ≡ Some i → t ≡ true
    go true is = refl
    go false is = cc

pub place-none : (n : ℕ) (holds : List Key) → hold_index n holds ≡ None → among (births_of holds) n ≡ false
place-none n holds e = sym (some-there n holds) ∙ go (nat_lt (place n holds) (length holds)) e
  where
    go : (t : Bool) → cond t (Some (place n holds)) None ≡ None → t ≡ false
    go true is = cc
    go false is = refl

-- one that is taken and released at once

pub last-some : (n : ℕ) (xs : List ℕ) → among xs n ≡ true → without_first n (xs ++ n ∷ []) ≡ without_first n xs ++ n ∷ []
last-some n [] e = cc
last-some n (x ∷ xs) e = go (nat_eq x n) (sym (ap (λ (t : Bool). t || among xs n) (turned n x)) ∙ e) (last-some n xs)
  where
    go : (t : Bool) → (t || among xs n) ≡ true → (among xs n ≡ true → without_first n (xs ++ n ∷ []) ≡ without_first n xs ++ n ∷ [])
        → cond t (xs ++ n ∷ []) (x ∷ without_first n (xs ++ n ∷ [])) ≡ cond t xs (x ∷ without_first n xs) ++ n ∷ []
    go true q rest = refl
    go false q rest = ap (λ (l : List ℕ). x ∷ l) (rest q)

pub last-none : (n : ℕ) (xs : List ℕ) → among xs n ≡ false → without_first n (xs ++ n ∷ []) ≡ xs
last-none n [] e = rw (eq-eqb n n refl) refl
last-none n (x ∷ xs) e = go (nat_eq x n) (sym (ap (λ (t : Bool). t || among xs n) (turned n x)) ∙ e) (last-none n xs)
  where
    go : (t : Bool) → (t || among xs n) ≡ false → (among xs n ≡ false → without_first n (xs ++ n ∷ []) ≡ xs)
        → cond t (xs ++ n ∷ []) (x ∷ without_first n (xs ++ n ∷ [])) ≡ x ∷ xs
    go true q rest = cc
    go false q rest = ap (λ (l : List ℕ). x ∷ l) (rest q)

pub last-hold : (n : ℕ) (holds : List Key) (i : ℕ) (k : Key) → hold_index n holds ≡ Some i → k ≡ slice_index_or holds i k
    → births_of (remove holds i ++ k ∷ []) ≡ without_first n (births_of holds ++ n ∷ [])
last-hold n holds i k e is =
    let born : k.birth ≡ n = ap (λ (h : Key). h.birth) is ∙ born-place n holds i k e in
    births-more (remove holds i) k
    ∙ ap (λ (m : ℕ). births_of (remove holds i) ++ m ∷ []) born
    ∙ ap (λ (l : List ℕ). l ++ n ∷ []) (less-hold n holds i e)
    ∙ sym (last-some n (births_of holds) (place-some n holds i e))

-- the holds that are not on an object

pub births-without : (n : ℕ) (holds : List Key) → births_of (filter (λ (k : Key). not (nat_eq k.birth n)) holds) ≡ without_all n (births_of holds)
births-without n [] = refl
births-without n (k ∷ holds) = go (not (nat_eq k.birth n)) (births-without n holds)
  where
    go : (t : Bool) → births_of (filter (λ (h : Key). not (nat_eq h.birth n)) holds) ≡ without_all n (births_of holds)
        → births_of (cond t (k ∷ filter (λ (h : Key). not (nat_eq h.birth n)) holds) (filter (λ (h : Key). not (nat_eq h.birth n)) holds))
        ≡ cond t (k.birth ∷ without_all n (births_of holds)) (without_all n (births_of holds))
    go true rest = ap (λ (l : List ℕ). k.birth ∷ l) rest
    go false rest = rest
