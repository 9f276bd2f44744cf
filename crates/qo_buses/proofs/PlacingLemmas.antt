-- The search for a place: below an address nothing fits.
use Rattle.std.proofs.Common.{◌≡◌, refl, ap, sym, ◌∙◌, ℕ, zero, suc, ◌+◌, ◌<◌, ◌≤◌, ◌%◌, ◌^◌, Bool, true, false, not, ◌&&◌, ◌||◌, eqb, List, [], ◌∷◌, find}
use Rattle.std.proofs.Common.{Some, None, is_some, arith, ⊎_elim}
use Rattle.std.specs.List.{list_any}
use Rattle.std.proofs.Math.Bool.{or-true}
use Rattle.std.proofs.lemmas.Bool.{and_right, cases_lt, eqb-true}
use Rattle.std.proofs.lemmas.Bool.Decides.{nat_tests}
use Rattle.qo_values.specs.declared.ranges.Range.{Range}
use Rattle.qo_values.specs.declared.limits.TheConstants.{DIMM_ALIGN}
use Rattle.qo_values.specs.Placing.{fits_at, is_in_window, least, overlap, overlaps_any, free_address, range_at, window_start, window_end, window_size}
use Rattle.qo_heap.proofs.HeapLemmas.{is_some-find}
use Rattle.qo_values.proofs.ListLemmas.{found-passes}
use Rattle.qo_values.proofs.PlacingLemmas.{least-passes}
use Rattle.qo_claims.proofs.LeastLemmas.{least-found, least-none}
use Rattle.qo_claims.proofs.Walks.{fits-free}

-- one passes what the one found passes
pub found-any : {X : Type 0} (p q : X → Bool) (xs : List X) (x : X) → find p xs ≡ Some x → q x ≡ true → list_any q xs ≡ true
found-any p q [] x e is = cc
found-any p q (y ∷ xs) x e is = go (p y) refl (found-any p q xs x)
  where
    go : (b : Bool) → p y ≡ b → (find p xs ≡ Some x → q x ≡ true → list_any q xs ≡ true) → (q y || list_any q xs) ≡ true
    go true at rest = let same : y ≡ x = cc (rw at at e) in ap (λ (t : Bool). t || list_any q xs) (ap q same ∙ is)
    go false at rest = ap (λ (t : Bool). q y || t) (rest (rw at at e) is) ∙ or-true (q y)

-- what does not fit
module _ (ranges : List Range) (size at : ℕ) where
  pub uneven : (eqb (at % DIMM_ALIGN) 0) ≡ false → fits_at ranges size DIMM_ALIGN at ≡ false
  uneven is = ap (λ (t : Bool). (t && is_in_window (range_at at size)) && not (overlaps_any (range_at at size) ranges)) is

  pub outside : window_end < at + size → fits_at ranges size DIMM_ALIGN at ≡ false
  outside past =
      let out : is_in_window (range_at at size) ≡ false = grind (arith, nat_tests) in
      ap (λ (t : Bool). t && not (overlaps_any (range_at at size) ranges)) (ap (λ (t : Bool). eqb (at % DIMM_ALIGN) 0 && t) out ∙ and_right _ false refl)

  pub overlapping : overlaps_any (range_at at size) ranges ≡ true → fits_at ranges size DIMM_ALIGN at ≡ false
  overlapping is = and_right (eqb (at % DIMM_ALIGN) 0 && is_in_window (range_at at size)) (not (overlaps_any (range_at at size) ranges)) (ap not is)

  pub fitting : at % DIMM_ALIGN ≡ 0 → window_start ≤ at → at + size ≤ window_end → overlaps_any (range_at at size) ranges ≡ false
      → fits_at ranges size DIMM_ALIGN at ≡ true
  fitting even above below free =
      let inside : is_in_window (range_at at size) ≡ true = grind (arith, nat_tests) in
      rw (even, inside, free) refl

-- an address that is reached: a multiple in or past the window, below which nothing fits
pub record Reached (ranges : List Range) (size at : ℕ) : Type 0 where
  pub even : at % DIMM_ALIGN ≡ 0
  pub above : window_start ≤ at
  pub none : (lower : ℕ) → window_start ≤ lower → lower < at → fits_at ranges size DIMM_ALIGN lower ≡ false

-- from an address at which a range is overlapped, nothing fits up to the next multiple after that range
module _ (ranges : List Range) (size at : ℕ) (r : Range) (found : find (overlap (range_at at size)) ranges ≡ Some r) where
  meets : (lower : ℕ) → at ≤ lower → lower < r.at + r.size → overlap (range_at lower size) r ≡ true
  meets lower from below =
      let here : overlap (range_at at size) r ≡ true = found-passes (overlap (range_at at size)) ranges r found in
      let over : r.at < at + size = grind (arith, nat_tests) in
      grind (arith, nat_tests)

  pub goes-on : at < r.at + r.size
  goes-on =
      let here : overlap (range_at at size) r ≡ true = found-passes (overlap (range_at at size)) ranges r found in
      grind (arith, nat_tests)

  pub none-up : (next : ℕ) → ((lower : ℕ) → r.at + r.size ≤ lower → lower % DIMM_ALIGN ≡ 0 → next ≤ lower)
      → (lower : ℕ) → at ≤ lower → lower < next → fits_at ranges size DIMM_ALIGN lower ≡ false
  none-up next least lower from below = ⊎_elim
      (λ over. overlapping ranges size lower (found-any (overlap (range_at at size)) (overlap (range_at lower size)) ranges r found (meets lower from over)))
      (λ past. by past (eqb (lower % DIMM_ALIGN) 0) refl)
      (cases_lt lower (r.at + r.size))
    where
      by : r.at + r.size ≤ lower → (b : Bool) → eqb (lower % DIMM_ALIGN) 0 ≡ b → fits_at ranges size DIMM_ALIGN lower ≡ false
      by past true is = let up : next ≤ lower = least lower past (eqb-true (lower % DIMM_ALIGN) 0 is) in absurd (omega arith)
      by past false is = uneven ranges size lower is

  pub reached-next : (next : ℕ) → Reached ranges size at → next % DIMM_ALIGN ≡ 0 → r.at + r.size ≤ next
      → ((lower : ℕ) → r.at + r.size ≤ lower → lower % DIMM_ALIGN ≡ 0 → next ≤ lower) → Reached ranges size next
  reached-next next so even above least =
      let up = goes-on in
      record {
        even = even;
        above = omega (arith, so.above);
        none = λ lower from below. ⊎_elim (λ before. so.none lower from before) (λ after. none-up next least lower after below) (cases_lt lower at);
      }

  -- where that multiple is past the last address there is no place
  pub place-past : Reached ranges size at → ((lower : ℕ) → r.at + r.size ≤ lower → lower % DIMM_ALIGN ≡ 0 → 2 ^ 64 ≤ lower)
      → free_address ranges size DIMM_ALIGN ≡ None
  place-past so least =
      least-none (fits_at ranges size DIMM_ALIGN) window_start window_size
      (λ lower from below. ⊎_elim (λ before. so.none lower from before) (λ after. none-up (2 ^ 64) least lower after (omega arith)) (cases_lt lower at))

-- the place is reached
pub place-found : (ranges : List Range) (size at : ℕ) → Reached ranges size at → at < window_end → at + size ≤ window_end
    → find (overlap (range_at at size)) ranges ≡ None → free_address ranges size DIMM_ALIGN ≡ Some at
place-found ranges size at so within fits none =
    least-found (fits_at ranges size DIMM_ALIGN) window_start window_size at so.above (omega arith)
    (fitting ranges size at so.even so.above fits (sym (is_some-find (overlap (range_at at size)) ranges) ∙ ap is_some none)) so.none

-- or the window's end
pub place-out : (ranges : List Range) (size at : ℕ) → Reached ranges size at → (at < window_end → window_end < at + size)
    → free_address ranges size DIMM_ALIGN ≡ None
place-out ranges size at so out =
    least-none (fits_at ranges size DIMM_ALIGN) window_start window_size
    (λ lower from below. ⊎_elim (λ before. so.none lower from before)
    (λ after. outside ranges size lower (let past : window_end < at + size = out (omega arith) in omega arith)) (cases_lt lower at))

-- of two tests that tell the same, the same number is the least that passes
pub least-same : (p q : ℕ → Bool) (first more : ℕ) → ((n : ℕ) → first ≤ n → n < first + more → p n ≡ q n) → least p first more ≡ least q first more
unfolding least
least-same p q first zero same = refl
least-same p q first (suc more) same =
    rw (same first (omega arith) (omega arith), least-same p q (first + 1) more (λ n from below. same n (omega arith) (omega arith))) refl

-- beside ranges that overlap the same, the place is the same
pub place-same : (xs ys : List Range) (size : ℕ) → ((r : Range) → overlaps_any r xs ≡ overlaps_any r ys)
    → free_address xs size DIMM_ALIGN ≡ free_address ys size DIMM_ALIGN
place-same xs ys size same =
    least-same (fits_at xs size DIMM_ALIGN) (fits_at ys size DIMM_ALIGN) window_start window_size
    (λ at from below. ap (λ (t : Bool). eqb (at % DIMM_ALIGN) 0 && is_in_window (range_at at size) && not t) (same (range_at at size)))

-- a place lies in the window and overlaps none
pub place-free : (ranges : List Range) (size at : ℕ) → free_address ranges size DIMM_ALIGN ≡ Some at
    → (is_in_window (range_at at size) ≡ true) × (overlaps_any (range_at at size) ranges ≡ false)
place-free ranges size at found =
    fits-free ranges size DIMM_ALIGN at (least-passes (fits_at ranges size DIMM_ALIGN) window_start window_size at found)
