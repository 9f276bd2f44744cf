-- Whether one of a list passes, as they are counted.
use Rattle.std.proofs.Common.{◌≡◌, refl, ap, ap₂, sym, ◌∙◌, ℕ, ◌+◌, ◌<◌, Bool, true, false, cond, ◌||◌, List, [], ◌∷◌, sum_by, nat_lt, arith}
use Rattle.std.specs.List.{list_any}
use Rattle.std.proofs.lemmas.Bool.Decides.{nat_tests}
use Rattle.std.proofs.lemmas.List.Sums.{sum_by-cons}
use Rattle.qo_object.specs.Content.{Content, is_parent}
use Rattle.qo_object.specs.Slots.{Named, names_child}
use Rattle.qo_heap.specs.Keeping.{children}

-- a count is none or some
pub none-counted : (n : ℕ) → nat_lt 0 n ≡ false → n ≡ 0
none-counted n e = grind (arith, nat_tests)

pub some-counted : (n : ℕ) → nat_lt 0 n ≡ true → 0 < n
some-counted n e = grind (arith, nat_tests)

pub counted-some : (n : ℕ) → 0 < n → nat_lt 0 n ≡ true
counted-some n e = grind (arith, nat_tests)

-- whether a sum has a part
either-part : (n m : ℕ) → (nat_lt 0 n || nat_lt 0 m) ≡ nat_lt 0 (n + m)
either-part n m = go (nat_lt 0 n) refl (nat_lt 0 m) refl (nat_lt 0 (n + m)) refl
  where
    go : (a : Bool) → nat_lt 0 n ≡ a → (b : Bool) → nat_lt 0 m ≡ b → (c : Bool) → nat_lt 0 (n + m) ≡ c → (a || b) ≡ c
    go true p b q true r = refl
    go true p b q false r = absurd (grind (arith, nat_tests))
    go false p true q true r = refl
    go false p true q false r = absurd (grind (arith, nat_tests))
    go false p false q true r = absurd (grind (arith, nat_tests))
    go false p false q false r = refl

module _ {X : Type 0} (p : X → Bool) where
  -- whether one passes, by a weight that those have that pass, and no others
  any-summed : (weight : X → ℕ) → ((x : X) → p x ≡ nat_lt 0 (weight x)) → (xs : List X) → list_any p xs ≡ nat_lt 0 (sum_by weight xs)
  any-summed weight weighs [] = refl
  any-summed weight weighs (x ∷ xs) =
      ap₂ (λ (a b : Bool). a || b) (weighs x) (any-summed weight weighs xs) ∙ either-part (weight x) (sum_by weight xs)
      ∙ ap (nat_lt 0) (sym (sum_by-cons weight x xs))

one-counts : (b : Bool) → b ≡ nat_lt 0 (cond b 1 0)
one-counts true = refl
one-counts false = refl

-- an object has another as a child where one of its slots does
pub parent-counted : (x : ℕ) (c : Content) → is_parent x c ≡ nat_lt 0 (children x c)
parent-counted x c =
    any-summed (λ (s : Named). names_child x s.1) (λ (s : Named). cond (names_child x s.1) 1 0) (λ s. one-counts (names_child x s.1)) c.slots
