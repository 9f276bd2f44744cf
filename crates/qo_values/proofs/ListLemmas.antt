-- What all elements of a list have, and the one that is found among them.
use Rattle.std.proofs.Common.{◌≡◌, refl, ap, sym, subst, ◌∙◌, ℕ, zero, suc, nat_lt, Bool, true, false, cond, List, [], ◌∷◌, length, find, position, slice_get, Some, None, IfSome}
use Rattle.std.specs.List.{AllByRecursion, position_or_len}
use Rattle.std.specs.Option.{option_and_then}
use Rattle.std.proofs.lemmas.Bool.{ltb-false}
use Rattle.std.proofs.lemmas.List.Folds.{find_at}
use Rattle.std.proofs.lemmas.Option.{same_Some, slice_get_past}

-- what all have, all have by a weaker property
pub all-imply : {X : Type 0} (P Q : X → Type 0) → ((x : X) → P x → Q x) → (xs : List X) → AllByRecursion P xs → AllByRecursion Q xs
all-imply P Q weaker [] all = tt
all-imply P Q weaker (x ∷ xs) all = (weaker x all.0, all-imply P Q weaker xs all.1)

-- what all have, the one at a place has
pub all-at : {X : Type 0} (P : X → Type 0) (xs : List X) (i : ℕ) → AllByRecursion P xs → IfSome (slice_get xs i) P
all-at P [] i all = tt
all-at P (x ∷ xs) zero all = all.0
all-at P (x ∷ xs) (suc i) all = all-at P xs i all.1

-- the one found has it
pub found-has : {X : Type 0} (P : X → Type 0) (p : X → Bool) (xs : List X) (x : X) → AllByRecursion P xs → find p xs ≡ Some x → P x
found-has P p [] x all e = cc
found-has {X = X} P p (y ∷ xs) x all e = go (p y) refl (found-has P p xs x all.1)
  where
    go : (b : Bool) → p y ≡ b → (find p xs ≡ Some x → P x) → P x
    go true is rest = let same : y ≡ x = same_Some y x (rw is at e) in subst P same all.0
    go false is rest = rest (rw is at e)

-- it passes
pub found-passes : {X : Type 0} (p : X → Bool) (xs : List X) (x : X) → find p xs ≡ Some x → p x ≡ true
found-passes p [] x e = cc
found-passes p (y ∷ xs) x e = go (p y) refl (found-passes p xs x)
  where
    go : (b : Bool) → p y ≡ b → (find p xs ≡ Some x → p x ≡ true) → p x ≡ true
    go true is rest = let same : y ≡ x = same_Some y x (rw is at e) in subst (λ z. p z ≡ true) same is
    go false is rest = rest (rw is at e)

-- the first that passes stands at its place
pub find-at_place : {X : Type 0} (test : X → Bool) (xs : List X) → find test xs ≡ option_and_then (slice_get xs) (position test xs)
find-at_place test xs = find_at test xs ∙ by (nat_lt (position_or_len test xs) (length xs)) refl
  where
    by : (b : Bool) → nat_lt (position_or_len test xs) (length xs) ≡ b
        → slice_get xs (position_or_len test xs) ≡ option_and_then (slice_get xs) (cond b (Some (position_or_len test xs)) None)
    by true is = refl
    by false is = slice_get_past xs (position_or_len test xs) (ltb-false (position_or_len test xs) (length xs) is)

-- so the place has what a search finds, and where there is no place nothing is found
pub position-find : {X : Type 0} (test : X → Bool) (xs : List X) (i : ℕ) → position test xs ≡ Some i → slice_get xs i ≡ find test xs
position-find test xs i there = sym (find-at_place test xs ∙ ap (option_and_then (slice_get xs)) there)

pub position-none : {X : Type 0} (test : X → Bool) (xs : List X) → position test xs ≡ None → find test xs ≡ None
position-none test xs none = find-at_place test xs ∙ ap (option_and_then (slice_get xs)) none
