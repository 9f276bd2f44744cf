-- A claim that was taken and has ended leaves no trace.
use Rattle.std.proofs.Common.{◌≡◌, ℕ, Bool, true, false, List, [], ◌∷◌, ◌++◌, nat_lt, if◌then◌else◌, refl, ap, arith, eqb}
use Rattle.std.proofs.lemmas.Bool.Decides.{nat_tests}
use Rattle.std.proofs.lemmas.Slice.Eq.{bytes_eq-Decides}
use Rattle.std.specs.List.{list_any}
use Rattle.std.specs.Set.{remove_key}
use Rattle.std.specs.Str.{bytes_eq}
use Rattle.qo_values.specs.declared.ranges.Range.{Range}
use Rattle.qo_values.specs.Placing.{overlap, overlaps_any}
use Rattle.qo_claims.specs.declared.claims.Claimed.TheVariants as on
use Rattle.qo_claims.specs.declared.slots.BusSlot.{BusSlot}
use Rattle.qo_claims.specs.Laws.{LawGivenBack}
use Rattle.qo_claims.specs.Lists.{slot_eq, range_eq, with_range, without_range}
use Rattle.std.proofs.lemmas.Bool.{or_parts}

-- one that was not there, added after all, is what is taken out
remove_key-last : {A : Type 0} (test : A → Bool) (x : A) (xs : List A) → test x ≡ true → list_any test xs ≡ false → remove_key test (xs ++ x ∷ []) ≡ xs
remove_key-last test x [] same new = rw same refl
remove_key-last test x (y ∷ ys) same new =
    let apart = or_parts (test y) (list_any test ys) new in
    rw (apart.0) (ap (λ zs. y ∷ zs) (remove_key-last test x ys same apart.1))

pub eqb-same : (n : ℕ) → eqb n n ≡ true
eqb-same n = grind (arith, nat_tests)

pub slot_eq-same : (s : BusSlot) → slot_eq s s ≡ true
slot_eq-same s = rw (eqb-same s.bus, eqb-same s.slot) refl

pub range_eq-same : (r : Range) → range_eq r r ≡ true
range_eq-same r = rw (eqb-same r.at, eqb-same r.size) refl

-- two ranges with bytes that do not overlap are not the same
range_eq-other : (r x : Range) → eqb r.size 0 ≡ false → overlap r x ≡ false → range_eq r x ≡ false
range_eq-other r x some apart = grind (arith, nat_tests)

-- a range goes among those that it overlaps none of, and is what is taken out
without_range-with : (r : Range) (ranges : List Range) → eqb r.size 0 ≡ false → overlaps_any r ranges ≡ false → without_range r (with_range r ranges) ≡ ranges
without_range-with r [] some free = rw (range_eq-same r) refl
without_range-with r (x ∷ xs) some free =
    let apart = or_parts (overlap r x) (overlaps_any r xs) free in
    by (nat_lt r.at x.at) (range_eq-other r x some apart.0) (without_range-with r xs some apart.1)
  where
    by : (b : Bool) → range_eq r x ≡ false → without_range r (with_range r xs) ≡ xs → without_range r (if b then r ∷ x ∷ xs else x ∷ with_range r xs) ≡ x ∷ xs
    by true other rest = rw (range_eq-same r) refl
    by false other rest = rw other (ap (λ ys. x ∷ ys) rest)

pub given-back : LawGivenBack
given-back (on.Device id) h free some =
    ap (λ ids. record h { devices = ids }) (remove_key-last (bytes_eq id) id h.devices ((bytes_eq-Decides id id).1 refl) free)
given-back (on.Slot s) h free some = ap (λ slots. record h { slots = slots }) (remove_key-last (slot_eq s) s h.slots (slot_eq-same s) free)
given-back (on.Ring id) h free some = ap (λ ids. record h { rings = ids }) (remove_key-last (bytes_eq id) id h.rings ((bytes_eq-Decides id id).1 refl) free)
given-back (on.Backend birth) h free some =
    ap (λ births. record h { backends = births }) (remove_key-last (λ b. eqb birth b) birth h.backends (eqb-same birth) free)
given-back (on.Range r) h free some = ap (λ ranges. record h { ranges = ranges }) (without_range-with r h.ranges some free)
