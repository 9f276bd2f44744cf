-- The place of a child: an object is a child of one slot at most, so that a slot that has it as a child is the first one.
use Rattle.std.proofs.Common.{◌≡◌, refl, ap, ◌∙◌, ℕ, zero, suc, ◌+◌, ◌≤◌, Bool, true, false, cond, eqb, nat_lt, List, [], ◌∷◌, length, count_by, slice_get, position, Option, Some, None, option_map, IsSomeAnd, arith}
use Rattle.std.specs.List.{position_or_len}
use Rattle.std.proofs.lemmas.Bool.Decides.{nat_tests}
use Rattle.std.proofs.lemmas.List.Sums.{sum_by-cons}
use Rattle.std.proofs.lemmas.Option.{same_Some, slice_get_within}
use Rattle.qo_slots.specs.declared.keys.Key.{Key}
use Rattle.qo_object.specs.Content.{Content}
use Rattle.qo_object.specs.Slots.{Named, names_child, slot_in}
use Rattle.qo_heap.specs.Keeping.{children, owners}
use Rattle.qo_heap.specs.Rows.{object_at}

module _ {X : Type 0} (p : X → Bool) where
  -- one that passes is counted
  passes-counted : (xs : List X) (i : ℕ) (x : X) → slice_get xs i ≡ Some x → p x ≡ true → 1 ≤ count_by p xs
  passes-counted [] i x there passes = cc
  passes-counted (y ∷ ys) zero x there passes =
      let here : cond {A = ℕ} (p y) 1 0 ≡ 1 = ap (λ (b : Bool). cond {A = ℕ} b 1 0) (ap p (same_Some y x there) ∙ passes) in
      omega (arith, here, sum_by-cons (λ (z : X). cond {A = ℕ} (p z) 1 0) y ys)
  passes-counted (y ∷ ys) (suc i) x there passes =
      omega (arith, passes-counted ys i x there passes, sum_by-cons (λ (z : X). cond {A = ℕ} (p z) 1 0) y ys)

  -- where one passes at most, one that passes is the first
  first-there : (xs : List X) (i : ℕ) (x : X) → count_by p xs ≤ 1 → slice_get xs i ≡ Some x → p x ≡ true → position_or_len p xs ≡ i
  first-there [] i x few there passes = cc
  first-there (y ∷ ys) zero x few there passes = let here : p y ≡ true = ap p (same_Some y x there) ∙ passes in rw here refl
  first-there (y ∷ ys) (suc i) x few there passes = go (p y) refl (first-there ys i x)
    where
      split : count_by p (y ∷ ys) ≡ cond {A = ℕ} (p y) 1 0 + count_by p ys
      split = sum_by-cons (λ (z : X). cond {A = ℕ} (p z) 1 0) y ys

      go : (b : Bool) → p y ≡ b → (count_by p ys ≤ 1 → slice_get ys i ≡ Some x → p x ≡ true → position_or_len p ys ≡ i)
          → position_or_len p (y ∷ ys) ≡ suc i
      go true is rest =
          let here : cond {A = ℕ} (p y) 1 0 ≡ 1 = ap (λ (b : Bool). cond {A = ℕ} b 1 0) is in
          let later : 1 ≤ count_by p ys = passes-counted ys i x there passes in
          absurd (omega (arith, few, split, here, later))
      go false is rest = let later : position_or_len p ys ≡ i = rest (omega (arith, few, split)) there passes in rw is (omega (arith, later))

  only-place : (xs : List X) (i : ℕ) (x : X) → count_by p xs ≤ 1 → slice_get xs i ≡ Some x → p x ≡ true → position p xs ≡ Some i
  only-place xs i x few there passes =
      let first : position_or_len p xs ≡ i = first-there xs i x few there passes in
      let within : nat_lt i (length xs) ≡ true = let below = slice_get_within xs i x there in grind (arith, nat_tests) in
      rw first (rw within refl)

-- the slots of an object have another as a child as often as it is one, at most
children-within : (x n : ℕ) (c : Content) (rows : List (Key × Content)) → object_at rows n ≡ Some c → children x c ≤ owners x rows
children-within x n c [] there = cc
children-within x n c (row ∷ rows) there = go (eqb row.0.birth n) refl (children-within x n c rows)
  where
    go : (b : Bool) → eqb row.0.birth n ≡ b → (object_at rows n ≡ Some c → children x c ≤ owners x rows) → children x c ≤ owners x (row ∷ rows)
    go true is rest =
        let here : row.1 ≡ c = cc (rw is at there) in
        let own : children x row.1 ≡ children x c = ap (children x) here in
        omega (arith, own, sum_by-cons (λ (r : Key × Content). children x r.1) row rows)
    go false is rest =
        let later : children x c ≤ owners x rows = rest (rw is at there) in
        omega (arith, later, sum_by-cons (λ (r : Key × Content). children x r.1) row rows)

-- a slot of an object that has another as a child is the first one that has
pub only-child : (x n : ℕ) (c : Content) (rows : List (Key × Content)) (i : ℕ) → owners x rows ≤ 1 → object_at rows n ≡ Some c
    → IsSomeAnd (slot_in c.slots i) (λ s. names_child x s ≡ true) → position (λ (s : Named). names_child x s.1) c.slots ≡ Some i
only-child x n c rows i once there is = go (slice_get c.slots i) refl is
  where
    few : children x c ≤ 1
    few = let within = children-within x n c rows there in omega (arith, once, within)

    go : (o : Option Named) → slice_get c.slots i ≡ o → IsSomeAnd (option_map (λ (s : Named). s.1) o) (λ s. names_child x s ≡ true)
        → position (λ (s : Named). names_child x s.1) c.slots ≡ Some i
    go None at is = absurd is
    go (Some s) at is = only-place (λ (t : Named). names_child x t.1) c.slots i s few at is
