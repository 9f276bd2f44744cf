-- Ranges that lie apart: one more, one less.
use Rattle.std.proofs.Common.{◌≡◌, ℕ, suc, ◌+◌, ◌<◌, ◌≤◌, Bool, true, false, cond, not, List, [], ◌∷◌, length, take, drop, insert, remove, position, Some, None, nat_lt, if◌then◌else◌, unwrap_or, refl, ap, sym, ◌∙◌, take_all, append-nil, ◌⊎◌, inl, inr, true≢false, arith, ⊎_elim}
use Rattle.std.proofs.Math.ListN.{drop_of_length-le}
use Rattle.std.proofs.lemmas.Bool.{cases_lt, or_parts}
use Rattle.std.proofs.lemmas.Bool.Decides.{nat_tests}
use Rattle.std.proofs.lemmas.List.Sums.{prefix_len-le-length}
use Rattle.std.specs.List.{position_or_len}
use Rattle.std.specs.Set.{remove_key}
use Rattle.qo_values.specs.declared.ranges.Range.{Range}
use Rattle.qo_values.specs.Placing.{window_start, window_end, is_in_window, overlap, overlaps_any, LieApartFrom}
use Rattle.qo_claims.specs.Lists.{with_range}
use Rattle.qo_claims.proofs.Walks.{apart-end}

-- they lie apart from an earlier address on too
pub apart-earlier : (from low : ℕ) (ranges : List Range) → low ≤ from → LieApartFrom from ranges → LieApartFrom low ranges
apart-earlier from low [] earlier apart = omega arith
apart-earlier from low (r ∷ rs) earlier apart = (omega (arith, apart.0), apart.1)

-- without one of them
pub apart-without : (test : Range → Bool) (from : ℕ) (ranges : List Range) → LieApartFrom from ranges → LieApartFrom from (remove_key test ranges)
apart-without test from [] apart = apart
apart-without test from (r ∷ rs) apart = by (test r) (apart-without test (r.at + r.size) rs apart.1)
  where
    by : (b : Bool) → LieApartFrom (r.at + r.size) (remove_key test rs) → LieApartFrom from (cond b rs (r ∷ remove_key test rs))
    by true rest = apart-earlier (r.at + r.size) from rs (omega (arith, apart.0)) apart.1
    by false rest = (apart.0, rest)

-- of two ranges that do not overlap one ends before the other begins
pub ends-before : (a b : Range) → overlap a b ≡ false → (b.at + b.size ≤ a.at) ⊎ (a.at + a.size ≤ b.at)
ends-before a b apart = ⊎_elim
    (λ within. ⊎_elim (λ over. absurd (true≢false (sym (meets within over) ∙ apart))) inr (cases_lt b.at (a.at + a.size)))
    inl
    (cases_lt a.at (b.at + b.size))
  where
    meets : a.at < b.at + b.size → b.at < a.at + a.size → overlap a b ≡ true
    meets within over = grind (arith, nat_tests)

-- with one more that overlaps none of them
pub apart-with : (r : Range) (from : ℕ) (ranges : List Range) → 1 ≤ r.size → from ≤ r.at → r.at + r.size ≤ window_end → overlaps_any r ranges ≡ false
    → LieApartFrom from ranges → LieApartFrom from (with_range r ranges)
apart-with r from [] some above below free apart = (above, below)
apart-with r from (x ∷ xs) some above below free apart =
    let free' = or_parts (overlap r x) (overlaps_any r xs) free in
    let sides = ends-before r x free'.0 in
    ⊎_elim
    (λ before. rw (first before) (above, (⊎_elim (λ past. omega (arith, apart-end (x.at + x.size) xs apart.1)) (λ ends. ends) sides, apart.1)))
    (λ after. rw (later after) (apart.0, apart-with r (x.at + x.size) xs some (⊎_elim (λ past. past) (λ ends. omega arith) sides) below free'.1 apart.1))
    (cases_lt r.at x.at)
  where
    first : r.at < x.at → nat_lt r.at x.at ≡ true
    first before = grind (arith, nat_tests)

    later : x.at ≤ r.at → nat_lt r.at x.at ≡ false
    later after = grind (arith, nat_tests)

one_more : (n : ℕ) → 1 + n ≡ suc n
one_more n = omega arith

-- the index of the first range after
pub with_range-insert : (r : Range) (ranges : List Range) → with_range r ranges ≡ insert ranges (position_or_len (λ x. nat_lt r.at x.at) ranges) r
with_range-insert r [] = refl
with_range-insert r (x ∷ xs) = by (nat_lt r.at x.at) (with_range-insert r xs)
  where
    by : (b : Bool) → with_range r xs ≡ insert xs (position_or_len (λ y. nat_lt r.at y.at) xs) r
        → (if b then r ∷ x ∷ xs else x ∷ with_range r xs) ≡ insert (x ∷ xs) (cond (not b) (1 + position_or_len (λ y. nat_lt r.at y.at) xs) 0) r
    by true rest = refl
    by false rest = rw (one_more (position_or_len (λ y. nat_lt r.at y.at) xs)) (ap (λ ys. x ∷ ys) rest)

-- taking out the first that passes
module _ {A : Type 0} (test : A → Bool) where
  pub remove_key-first : (xs : List A) → remove_key test xs ≡ remove xs (position_or_len test xs)
  remove_key-first [] = refl
  remove_key-first (x ∷ xs) = by (test x) (remove_key-first xs)
    where
      by : (b : Bool) → remove_key test xs ≡ remove xs (position_or_len test xs)
          → cond b xs (x ∷ remove_key test xs) ≡ remove (x ∷ xs) (cond (not b) (1 + position_or_len test xs) 0)
      by true rest = refl
      by false rest = rw (one_more (position_or_len test xs)) (ap (λ ys. x ∷ ys) rest)

  pub position_or_len-le : (xs : List A) → position_or_len test xs ≤ length xs
  position_or_len-le xs = prefix_len-le-length (λ x. not (test x)) xs

  -- the first that passes
  pub position-is : (xs : List A) (i : ℕ) → position test xs ≡ Some i → i ≡ position_or_len test xs
  position-is xs i found = by (nat_lt (position_or_len test xs) (length xs)) found
    where
      by : (b : Bool) → cond b (Some (position_or_len test xs)) None ≡ Some i → i ≡ position_or_len test xs
      by true same = cc
      by false same = cc

  -- or the length, where none does
  pub position-none : (xs : List A) → position test xs ≡ None → position_or_len test xs ≡ length xs
  position-none xs none = ⊎_elim
      (λ within. absurd (by (nat_lt (position_or_len test xs) (length xs)) (passes within) none))
      (λ past. let most = position_or_len-le xs in omega arith)
      (cases_lt (position_or_len test xs) (length xs))
    where
      passes : position_or_len test xs < length xs → nat_lt (position_or_len test xs) (length xs) ≡ true
      passes within = grind (arith, nat_tests)

      by : (b : Bool) → b ≡ true → cond b (Some (position_or_len test xs)) None ≡ None → ⊥
      by true is none' = cc
      by false is none' = cc

  pub position-or : (xs : List A) → unwrap_or (position test xs) (length xs) ≡ position_or_len test xs
  position-or xs = ⊎_elim
      (λ within. rw (passes within) refl)
      (λ past. rw (fails past) (let most = position_or_len-le xs in omega arith))
      (cases_lt (position_or_len test xs) (length xs))
    where
      passes : position_or_len test xs < length xs → nat_lt (position_or_len test xs) (length xs) ≡ true
      passes within = grind (arith, nat_tests)

      fails : length xs ≤ position_or_len test xs → nat_lt (position_or_len test xs) (length xs) ≡ false
      fails past = grind (arith, nat_tests)

  pub remove_key-found : (xs : List A) (i : ℕ) → position test xs ≡ Some i → remove_key test xs ≡ remove xs i
  remove_key-found xs i found = rw (position-is xs i found) (remove_key-first xs)

  pub remove_key-none : (xs : List A) → position test xs ≡ None → remove_key test xs ≡ xs
  remove_key-none xs none = remove_key-first xs ∙ past (position_or_len test xs) (position-none xs none)
    where
      past : (n : ℕ) → n ≡ length xs → remove xs n ≡ xs
      past n is =
          let front : take n xs ≡ xs = take_all n xs (omega arith) in
          let after : length xs ≤ suc n = omega arith in
          let back : drop (suc n) xs ≡ [] = drop_of_length-le xs after in
          rw (front, back) (append-nil xs)

-- a range in the window, by its ends
pub in-window : (r : Range) → is_in_window r ≡ true → (window_start ≤ r.at) × (r.at + r.size ≤ window_end)
in-window r inside = (grind (arith, nat_tests), grind (arith, nat_tests))
