-- The names of slots in their order.
use Rattle.std.proofs.Common.{◌≡◌, ℕ, zero, suc, ◌+◌, ◌<◌, nat_lt, Bool, false, not, cond, List, [], ◌∷◌, ◌++◌, map, take, get_or, length, position, Some, None, refl, ap, ap₂, arith, ◌∙◌}
use Rattle.std.proofs.lemmas.Cmp.{nat_list_eq_equiv}
use Rattle.std.specs.List.{AllByRecursion, IsDistinct, list_any, position_or_len}
use Rattle.std.specs.Str.{bytes_eq}
use Rattle.qo_object.specs.Slots.{Named, names_of}

-- what is found among the parts of some things is found among these
module _ {A B : Type 0} (part : A → B) (test : B → Bool) where
  place-map : (xs : List A) → position_or_len test (map part xs) ≡ position_or_len (λ x. test (part x)) xs
  place-map [] = refl
  place-map (x ∷ xs) = ap (λ (n : ℕ). cond (not (test (part x))) (1 + n) 0) (place-map xs)

  length-map : (xs : List A) → length (map part xs) ≡ length xs
  length-map [] = refl
  length-map (x ∷ xs) = ap suc (length-map xs)

  pub position-map : (xs : List A) → position test (map part xs) ≡ position (λ x. test (part x)) xs
  position-map xs = ap₂ (λ (a b : ℕ). cond (nat_lt a b) (Some a) None) (place-map xs) (length-map xs)

-- a name is not among those before it
all-at : (P : List ℕ → Type 0) (slots : List Named) (i : ℕ) (w : Named) → AllByRecursion P (names_of slots) → i < length slots → w ≡ get_or slots i w → P w.0
all-at P [] i w all in_it is = absurd (omega (arith, in_it))
all-at P (s ∷ slots) zero w all in_it is = rw (ap (λ (x : Named). x.0) is) all.0
all-at P (s ∷ slots) (suc i) w all in_it is = all-at P slots i w all.1 (omega (arith, in_it)) is

pub absent-before : (slots : List Named) (i : ℕ) (w : Named) → IsDistinct bytes_eq (names_of slots) → i < length slots → w ≡ get_or slots i w
    → list_any (bytes_eq w.0) (names_of (take i slots)) ≡ false
unfolding IsDistinct
absent-before [] zero w distinct in_it is = refl
absent-before [] (suc i) w distinct in_it is = refl
absent-before (s ∷ slots) zero w distinct in_it is = refl
absent-before (s ∷ slots) (suc i) w distinct in_it is =
    let low : i < length slots = omega (arith, in_it) in
    let apart : bytes_eq s.0 w.0 ≡ false = all-at (λ name. bytes_eq s.0 name ≡ false) slots i w distinct.0 low is in
    rw (nat_list_eq_equiv.symm w.0 s.0 ∙ apart) (absent-before slots i w distinct.1 low is)

-- one name more
pub names-next : (slots : List Named) (i : ℕ) (w : Named) → i < length slots → w ≡ get_or slots i w
    → names_of (take i slots) ++ w.0 ∷ [] ≡ names_of (take (i + 1) slots)
names-next slots i w in_it is = by (i + 1) (omega arith)
  where
    step : (ss : List Named) (k : ℕ) → k < length ss → w ≡ get_or ss k w → names_of (take k ss) ++ w.0 ∷ [] ≡ names_of (take (suc k) ss)
    step [] k low at = absurd (omega (arith, low))
    step (s ∷ ss) zero low at = ap (λ (x : Named). x.0 ∷ []) at
    step (s ∷ ss) (suc k) low at = ap (λ ns. s.0 ∷ ns) (step ss k (omega (arith, low)) at)

    by : (j : ℕ) → j ≡ suc i → names_of (take i slots) ++ w.0 ∷ [] ≡ names_of (take j slots)
    by j next = rw next (step slots i in_it is)
