-- The memory backends and the ranges of the DIMMs that stand, read from the objects of the board.
use Rattle.std.proofs.Common.{◌≡◌, refl, ap, ap₂, sym, ◌∙◌, ℕ, Bool, true, ◌&&◌, ◌||◌, ◌==◌, List, [], ◌∷◌, map, filter, Option, Some}
use Rattle.std.specs.List.{AllByRecursion, flat_map, list_any}
use Rattle.std.specs.Option.{option_map_or}
use Rattle.std.proofs.lemmas.Bool.{and_parts, eqb-true, or_right}
use Rattle.std.proofs.lemmas.List.Folds.{list_any-append}
use Rattle.qo_values.specs.declared.ranges.Range.{Range}
use Rattle.qo_values.proofs.ListLemmas.{all-imply}
use Rattle.qo_claims.specs.Lists.{range_eq}
use Rattle.qo_claims.proofs.ReturnedClaims.{range_eq-same}
use Rattle.qo_model.specs.Board.{Board, Record, record_of}
use Rattle.qo_model.specs.Devices.{is_realized}
use Rattle.qo_model.specs.Plug.{dimms, has_backend, is_dimm, range_in, ranges_of}
use Rattle.qo_sound.proofs.TestLemmas.{clash, clash-back, decide}
use Rattle.qo_realize.proofs.RecountedClaims.{is_at_range, stands_on}

-- tests of the elements of a list, over a filter and over lists in a row

any-filtered : {X Y : Type 0} (f : X → Y) (t : X → Bool) (q : Y → Bool) (xs : List X) → list_any q (map f (filter t xs)) ≡ list_any (λ x. t x && q (f x)) xs
any-filtered f t q [] = refl
any-filtered f t q (x ∷ xs) =
    decide (t x) (λ p. rw p (ap (λ (u : Bool). q (f x) || u) (any-filtered f t q xs))) (λ p. rw p (any-filtered f t q xs))

any-flat : {X Y : Type 0} (f : X → List Y) (q : Y → Bool) (xs : List X) → list_any q (flat_map f xs) ≡ list_any (λ x. list_any q (f x)) xs
any-flat f q [] = refl
any-flat f q (x ∷ xs) = list_any-append q (f x) (flat_map f xs) ∙ ap (λ (u : Bool). list_any q (f x) || u) (any-flat f q xs)

any-alike : {X : Type 0} (p q : X → Bool) (xs : List X) → AllByRecursion (λ x. p x ≡ q x) xs → list_any p xs ≡ list_any q xs
any-alike p q [] h = refl
any-alike p q (x ∷ xs) h = ap₂ (λ (a b : Bool). a || b) h.0 (any-alike p q xs h.1)

-- lists with the same ranges pass the same tests

record Passes (p : Range → Bool) (xs : List Range) : Type 0 where
  range : Range
  passes : p range ≡ true
  there : list_any (range_eq range) xs ≡ true

one-passes : (p : Range → Bool) (xs : List Range) → list_any p xs ≡ true → Passes p xs
one-passes p [] e = clash-back e
one-passes p (x ∷ xs) e =
    decide (p x) (λ q. record { range = x; passes = q; there = rw (range_eq-same x) refl })
    (λ q.
    let later = one-passes p xs (rw q at e) in
    record { range = later.range; passes = later.passes; there = or_right (range_eq later.range x) (list_any (range_eq later.range) xs) later.there })

range-is : (a b : Range) → range_eq a b ≡ true → a ≡ b
range-is a b e =
    let split = and_parts (a.at == b.at) (a.size == b.size) e in
    let at : a.at ≡ b.at = eqb-true a.at b.at split.0 in
    let size : a.size ≡ b.size = eqb-true a.size b.size split.1 in
    rw (at, size) refl

passes-one : (p : Range → Bool) (s : Range) (xs : List Range) → p s ≡ true → list_any (range_eq s) xs ≡ true → list_any p xs ≡ true
passes-one p s [] passes e = clash-back e
passes-one p s (x ∷ xs) passes e =
    decide (range_eq s x) (λ q. rw (ap p (sym (range-is s x q)) ∙ passes) refl)
    (λ q. or_right (p x) (list_any p xs) (passes-one p s xs passes (rw q at e)))

pub same-ranges : (xs ys : List Range) → ((s : Range) → list_any (range_eq s) xs ≡ list_any (range_eq s) ys) → (p : Range → Bool)
    → list_any p xs ≡ list_any p ys
same-ranges xs ys same p =
    decide (list_any p ys) (λ e. over ys xs (λ s. sym (same s)) e ∙ sym e)
    (λ e. decide (list_any p xs) (λ k. clash (sym (over xs ys same k) ∙ e)) (λ k. k ∙ sym e))
  where
    over : (xs ys : List Range) → ((s : Range) → list_any (range_eq s) xs ≡ list_any (range_eq s) ys) → list_any p xs ≡ true → list_any p ys ≡ true
    over xs ys same e = let one = one-passes p xs e in passes-one p one.range ys one.passes (sym (same one.range) ∙ one.there)

-- what the DIMMs have

module _ (b : Board) where
  abbrev is_on : Record → Bool
  is_on r = is_dimm r && is_realized b r.birth

  abbrev ranges_at : ℕ → List Range
  ranges_at d = option_map_or (λ (r : Record). range_in r.registers) (record_of b d) []

  pub backends-stand : (m : ℕ) → list_any (stands_on b m) b.records ≡ list_any (has_backend b m) (dimms b)
  backends-stand m = sym (any-filtered (λ (r : Record). r.birth) is_on (has_backend b m) b.records)

  pub ranges-stand : AllByRecursion (λ (r : Record). record_of b r.birth ≡ Some r) b.records → (s : Range)
      → list_any (is_at_range b s) b.records ≡ list_any (range_eq s) (ranges_of b)
  ranges-stand found s =
      sym
      (any-flat ranges_at (range_eq s) (dimms b) ∙ any-filtered (λ (r : Record). r.birth) is_on (λ d. list_any (range_eq s) (ranges_at d)) b.records
      ∙ any-alike (λ (r : Record). is_on r && list_any (range_eq s) (ranges_at r.birth)) (is_at_range b s) b.records
      (all-imply (λ (r : Record). record_of b r.birth ≡ Some r) (λ (r : Record). is_on r && list_any (range_eq s) (ranges_at r.birth) ≡ is_at_range b s r)
      (λ r there. ap (λ (o : Option Record). is_on r && list_any (range_eq s) (option_map_or (λ (y : Record). range_in y.registers) o [])) there) b.records
      found))
