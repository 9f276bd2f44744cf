-- What is so of numbers that are among others, and of those that are not.
use Rattle.std.proofs.Common.{◌≡◌, refl, sym, subst, ◌∙◌, ℕ, Bool, true, false, eqb, List, [], ◌∷◌}
use Rattle.qo_model.proofs.Common.{AllByRecursion, among}
use Rattle.std.proofs.lemmas.Bool.{eqb-true}
use Rattle.std.proofs.Math.Bool.{or-false}

-- a fact of each number holds of one that is among them
pub among-all : (P : ℕ → Type 0) (xs : List ℕ) → AllByRecursion P xs → (n : ℕ) → among xs n ≡ true → P n
among-all P [] h n e = cc
among-all P (x ∷ xs) h n e = go (eqb n x) refl (among-all P xs h.1 n)
  where
    go : (t : Bool) → eqb n x ≡ t → (among xs n ≡ true → P n) → P n
    go true p rest = subst P (sym (eqb-true n x p)) h.0
    go false p rest = rest (rw p at e)

-- what is not among numbers differs from each
pub among-apart : (n : ℕ) (xs : List ℕ) → among xs n ≡ false → AllByRecursion (λ x. eqb n x ≡ false) xs
among-apart n [] e = tt
among-apart n (x ∷ xs) e = go (eqb n x) refl (among-apart n xs)
  where
    go : (t : Bool) → eqb n x ≡ t → (among xs n ≡ false → AllByRecursion (λ x. eqb n x ≡ false) xs) → AllByRecursion (λ x. eqb n x ≡ false) (x ∷ xs)
    go true p rest = absurd (let clash : true ≡ false = rw p at e in cc)
    go false p rest = (p, rest (rw p at e))

-- what is among one is this one
pub among-one : (n x : ℕ) → among (x ∷ []) n ≡ true → n ≡ x
among-one n x e = eqb-true n x (sym (or-false (eqb n x)) ∙ e)
