-- The next multiple of a number is the least one.
use Rattle.std.proofs.Common.{◌≡◌, ℕ, ◌+◌, ◌-◌, ◌*◌, ◌/◌, ◌<◌, ◌≤◌, ◌%◌, add-zero, arith, ⊎_elim}
use Rattle.std.proofs.lemmas.Bool.{cases_lt}
use Rattle.std.proofs.Math.Nat.{mul-le-mul_right, mod-lt, mod-eq_of_lt, mod_self, mul-mod_left, div-add-mod', sub-zero}
use Rattle.std.specs.Int.{next_multiple_of}

-- from a number on, a multiple less than one step away
pub record IsNextMultiple (from align at : ℕ) : Type 0 where
  pub above : from ≤ at
  pub below : at < from + align
  pub multiple : at % align ≡ 0

pub next-multiple : (from align : ℕ) → 0 < align → IsNextMultiple from align (next_multiple_of from align)
next-multiple from align some = ⊎_elim up same (cases_lt 0 (from % align))
  where
    up : 0 < from % align → IsNextMultiple from align (next_multiple_of from align)
    up rest =
        let low : from % align < align = mod-lt from some in
        let step : (align - from % align) % align ≡ align - from % align = mod-eq_of_lt (omega arith) in
        let next : from + (align - from % align) ≡ (from / align + 1) * align = omega (arith, div-add-mod' from align) in
        rw step (record {
          above = omega arith;
          below = omega arith;
          multiple = rw next (mul-mod_left (from / align + 1) align);
        })

    same : from % align ≤ 0 → IsNextMultiple from align (next_multiple_of from align)
    same none =
        let zero : from % align ≡ 0 = omega arith in
        let step : (align - from % align) % align ≡ 0 = rw (zero, sub-zero) (mod_self align) in
        rw (step, add-zero) (record { above = omega arith; below = omega arith; multiple = zero })

-- no lower multiple is from that number on
pub least-multiple : (from align at lower : ℕ) → 0 < align → IsNextMultiple from align at → from ≤ lower → lower % align ≡ 0 → at ≤ lower
least-multiple from align at lower some next above exact = ⊎_elim less (λ most. most) (cases_lt lower at)
  where
    overtaken : at / align ≤ lower / align → at ≤ lower
    overtaken most =
        let product : at / align * align ≤ lower / align * align = mul-le-mul_right align most in
        omega (arith, next.multiple, div-add-mod' lower align, div-add-mod' at align)

    less : lower < at → at ≤ lower
    less low =
        let quotients : lower / align < at / align = ⊎_elim (λ more. more) (λ most. let at-most = overtaken most in
        absurd (omega arith)) (cases_lt (lower / align) (at / align)) in
        let apart : (lower / align + 1) * align ≤ at / align * align = mul-le-mul_right align (omega arith) in
        absurd (omega (arith, next.below, next.multiple, div-add-mod' lower align, div-add-mod' at align))
