-- A walk along ranges that lie apart finds the place.
use Rattle.std.proofs.Common.{◌≡◌, ℕ, suc, ◌+◌, ◌<◌, ◌≤◌, ◌%◌, Bool, true, false, ◌&&◌, not, List, [], ◌∷◌, length, drop, get_or, Option, Some, None, refl, arith, ⊎_elim, eqb}
use Rattle.std.proofs.lemmas.Bool.Decides.{nat_tests}
use Rattle.std.proofs.lemmas.Bool.{cases_lt}
use Rattle.std.proofs.Math.Seq.{drop-cons}
use Rattle.std.proofs.Math.ListN.{drop_of_length-le}
use Rattle.qo_values.specs.declared.ranges.Range.{Range}
use Rattle.qo_values.specs.Placing.{window_start, window_size, window_end, is_in_window, range_at, overlap, overlaps_any, LieApartFrom, fits_at, free_address}
use Rattle.qo_claims.specs.Gaps.{IsFirstFit}
use Rattle.qo_claims.proofs.LeastLemmas.{least-found, least-none}

-- of all ranges these are left, from an address on; below it nothing fits, and from it on only these are in the way
pub record Searched (all left : List Range) (size align from : ℕ) : Type 0 where
  pub start : window_start ≤ from
  pub apart : LieApartFrom from left
  pub after : (at : ℕ) → from ≤ at → overlaps_any (range_at at size) all ≡ overlaps_any (range_at at size) left
  pub below : (at : ℕ) → at < from → fits_at all size align at ≡ false

-- a window that ranges from an address on lie in ends no earlier
pub apart-end : (from : ℕ) (ranges : List Range) → LieApartFrom from ranges → from ≤ window_end
apart-end from [] apart = apart
apart-end from (r ∷ rs) apart = let later = apart-end (r.at + r.size) rs apart.1 in omega arith

-- what ends before they begin overlaps none of them
pub before-apart : (from : ℕ) (ranges : List Range) (here : Range) → LieApartFrom from ranges → here.at + here.size ≤ from → overlaps_any here ranges ≡ false
before-apart from [] here apart before = refl
before-apart from (r ∷ rs) here apart before =
    let rest = before-apart (r.at + r.size) rs here apart.1 (omega arith) in
    let first : overlap here r ≡ false = grind (arith, nat_tests) in
    rw (first, rest) refl

-- no lower multiple from that address on, so nothing lower fits
pub unfit-below : (all left : List Range) (size align from at lower : ℕ) → Searched all left size align from → ((n : ℕ) → from ≤ n → n % align ≡ 0 → at ≤ n)
    → lower < at → fits_at all size align lower ≡ false
unfit-below all left size align from at lower searched least low = ⊎_elim (λ below. searched.below lower below) from-there (cases_lt lower from)
  where
    from-there : from ≤ lower → fits_at all size align lower ≡ false
    from-there above =
        ⊎_elim (λ more. grind (arith, nat_tests)) (λ none. let at-most = least lower above (omega arith) in absurd (omega arith)) (cases_lt 0 (lower % align))

-- an address where it fits is a multiple, in the window and beside all ranges; and the other way round
pub fits-at : (all : List Range) (size align at : ℕ) → at % align ≡ 0 → window_start ≤ at → at + size ≤ window_end → overlaps_any (range_at at size) all ≡ false
    → fits_at all size align at ≡ true
fits-at all size align at multiple above below free = rw (multiple, free) (grind (arith, nat_tests))

-- what fits before the next range is the place
pub searched-found : (all left : List Range) (r : Range) (size align from at : ℕ) → 1 ≤ size → Searched all (r ∷ left) size align from
    → IsFirstFit from r.at size align (Some at) → free_address all size align ≡ Some at
searched-found all left r size align from at some searched first =
    let later = apart-end (r.at + r.size) left searched.apart.1 in
    let rest = before-apart (r.at + r.size) left (range_at at size) searched.apart.1 (omega (arith, first.2)) in
    let here : overlap (range_at at size) r ≡ false = grind (arith, nat_tests, first.2) in
    let free : overlaps_any (range_at at size) (r ∷ left) ≡ false = rw (here, rest) refl in
    least-found (fits_at all size align) window_start window_size at
    (omega (arith, searched.start, first.0))
    (omega (arith, first.2))
    (fits-at all size align at first.1 (omega (arith, searched.start, first.0)) (omega (arith, first.2)) (rw (searched.after at first.0) free))
    (λ lower above low. unfit-below all (r ∷ left) size align from at lower searched first.3 low)

-- after the last range, what fits before the window's end is the place
pub searched-last : (all : List Range) (size align from : ℕ) (found : Option ℕ) → 1 ≤ size → Searched all [] size align from
    → IsFirstFit from window_end size align found → free_address all size align ≡ found
searched-last all size align from None some searched first =
    least-none (fits_at all size align) window_start window_size (λ at above below.
    ⊎_elim (λ low. searched.below at low) (λ high. ⊎_elim (λ more. grind (arith, nat_tests)) (λ none. let past = first at high (omega arith) in
    grind (arith, nat_tests)) (cases_lt 0 (at % align))) (cases_lt at from))
searched-last all size align from (Some at) some searched first =
    least-found (fits_at all size align) window_start window_size at
    (omega (arith, searched.start, first.0))
    (omega (arith, first.2))
    (fits-at all size align at first.1 (omega (arith, searched.start, first.0)) first.2 (searched.after at first.0))
    (λ lower above low. unfit-below all [] size align from at lower searched first.3 low)

-- a range's end is within the window's
pub next-end : (all left : List Range) (r : Range) (size align from : ℕ) → Searched all (r ∷ left) size align from → r.at + r.size ≤ window_end
next-end all left r size align from searched = apart-end (r.at + r.size) left searched.apart.1

-- the next of the ranges that are left
pub searched-next : (all : List Range) (i size align from : ℕ) (default : Range) → i < length all → Searched all (drop i all) size align from
    → Searched all (get_or all i default ∷ drop (suc i) all) size align from
searched-next all i size align from default within searched = rw (← drop-cons all i default within) searched

-- after the last range none is left
pub searched-all : (all : List Range) (i size align from : ℕ) → length all ≤ i → Searched all (drop i all) size align from → Searched all [] size align from
searched-all all i size align from past searched = rw (drop_of_length-le all past) at searched

-- what fits lies in the window and overlaps none
pub fits-free : (all : List Range) (size align at : ℕ) → fits_at all size align at ≡ true
    → (is_in_window (range_at at size) ≡ true) × (overlaps_any (range_at at size) all ≡ false)
fits-free all size align at fits = by (eqb (at % align) 0) (is_in_window (range_at at size)) (overlaps_any (range_at at size) all) fits
  where
    by : (a b c : Bool) → (a && b && not c) ≡ true → (b ≡ true) × (c ≡ false)
    by true true false all' = (refl, refl)
    by true true true all' = cc
    by true false c all' = cc
    by false b c all' = cc
