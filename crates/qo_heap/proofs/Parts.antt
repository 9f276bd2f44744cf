-- A list in two parts: what is past its first items, and its first items.
use Rattle.std.proofs.Common.{◌≡◌, ℕ, ◌+◌, ◌-◌, ◌<◌, ◌≤◌, min, List, ◌++◌, length, take, drop, sym, ap, ◌∙◌, ⊎_elim, arith, append-nil, length-drop}
use Rattle.std.proofs.lemmas.Bool.{cases_lt}
use Rattle.std.proofs.lemmas.List.{take_min, drop_min, take_all, drop_all, take-append-le, drop-append-le}
use Rattle.std.proofs.Math.Seq.{take-append-add, drop-append-add}

module _ {X : Type 0} where
  past_two : (xs ys : List X) (n : ℕ) → drop n xs ++ drop (n - length xs) ys ≡ drop n (xs ++ ys)
  past_two xs ys n = ⊎_elim short long (cases_lt n (length xs))
    where
      short : n < length xs → drop n xs ++ drop (n - length xs) ys ≡ drop n (xs ++ ys)
      short less =
          ap (λ k. drop n xs ++ drop k ys) {x = n - length xs} {y = 0} (omega arith)
          ∙ sym (drop-append-le n xs ys (omega arith))

      long : length xs ≤ n → drop n xs ++ drop (n - length xs) ys ≡ drop n (xs ++ ys)
      long more =
          ap (λ zs. zs ++ drop (n - length xs) ys) (drop_all n xs more)
          ∙ sym (drop-append-add xs ys (n - length xs))
          ∙ ap (λ k. drop k (xs ++ ys)) {x = length xs + (n - length xs)} {y = n} (omega arith)

  first_two : (xs ys : List X) (n : ℕ) → take n xs ++ take (n - length xs) ys ≡ take n (xs ++ ys)
  first_two xs ys n = ⊎_elim short long (cases_lt n (length xs))
    where
      short : n < length xs → take n xs ++ take (n - length xs) ys ≡ take n (xs ++ ys)
      short less =
          ap (λ k. take n xs ++ take k ys) {x = n - length xs} {y = 0} (omega arith)
          ∙ append-nil (take n xs)
          ∙ sym (take-append-le n xs ys (omega arith))

      long : length xs ≤ n → take n xs ++ take (n - length xs) ys ≡ take n (xs ++ ys)
      long more =
          ap (λ zs. zs ++ take (n - length xs) ys) (take_all n xs more)
          ∙ sym (take-append-add xs ys (n - length xs))
          ∙ ap (λ k. take k (xs ++ ys)) {x = length xs + (n - length xs)} {y = n} (omega arith)

  -- the rest of a list from a place on
  rest : (xs : List X) (n : ℕ) → take (length xs - n) (drop n xs) ≡ drop n xs
  rest xs n = take_all (length xs - n) (drop n xs) (omega (arith, length-drop n xs))

  -- past the first n of two lists is what is past `a` of the one and `b` of the other
  pub past_lem : (xs ys : List X) (n a b : ℕ) → a ≡ min n (length xs) → b ≡ min (n - a) (length ys)
      → take (length xs - a) (drop a xs) ++ take (length ys - b) (drop b ys) ≡ drop n (xs ++ ys)
  past_lem xs ys n a b is_a is_b =
      ap (λ zs. zs ++ take (length ys - b) (drop b ys)) (rest xs a ∙ ap (λ k. drop k xs) is_a ∙ drop_min n xs)
      ∙ ap (λ zs. drop n xs ++ zs)
      (rest ys b ∙ ap (λ k. drop k ys) {x = b} {y = min (n - length xs) (length ys)} (omega (arith, is_a, is_b)) ∙ drop_min (n - length xs) ys)
      ∙ past_two xs ys n

  -- the first n of two lists are the first `a` of the one and `b` of the other
  pub first_lem : (xs ys : List X) (n a b : ℕ) → a ≡ min n (length xs) → b ≡ min (n - a) (length ys) → take a xs ++ take b ys ≡ take n (xs ++ ys)
  first_lem xs ys n a b is_a is_b =
      ap (λ zs. zs ++ take b ys) (ap (λ k. take k xs) is_a ∙ take_min n xs)
      ∙ ap (λ zs. take n xs ++ zs) (ap (λ k. take k ys) {x = b} {y = min (n - length xs) (length ys)} (omega (arith, is_a, is_b)) ∙ take_min (n - length xs) ys)
      ∙ first_two xs ys n
