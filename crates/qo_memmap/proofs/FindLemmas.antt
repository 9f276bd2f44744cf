-- How the span that holds an address is found.
use Rattle.std.proofs.Common.{◌≡◌, ℕ, zero, suc, ◌+◌, ◌-◌, ◌<◌, ◌≤◌, true, false, cond, List, [], ◌∷◌, Some, None, length, get_or, leb, refl, ap, arith}
use Rattle.std.proofs.lemmas.Bool.{leb-true, leb-false}
use Rattle.std.specs.List.Sorted.{IsNonDecreasingBy, IsPartitionPoint}
use Rattle.qo_memmap.specs.declared.span.Span.{Span}
use Rattle.qo_memmap.specs.Spans.{RiseFrom, in_span, span_holding}
use Rattle.qo_memmap.proofs.SpansLemmas.{in-behind, rises-before}

-- each span begins from the lower end on
starts-from : (low : ℕ) (spans : List Span) (i : ℕ) (d : Span) → RiseFrom low spans → i < length spans → low ≤ (get_or spans i d).at
starts-from low [] i d between within = absurd (omega arith)
starts-from low (s ∷ spans) zero d between within = between.0
starts-from low (s ∷ spans) (suc i) d between within =
    let rest = starts-from (s.at + s.size) spans i d between.1 (omega arith) in omega (arith, between.0, rest)

pub starts-rise : (low : ℕ) (spans : List Span) → RiseFrom low spans → IsNonDecreasingBy (λ (s : Span). s.at) spans
starts-rise low [] between i j d up within = absurd (omega arith)
starts-rise low (s ∷ spans) between zero zero d up within = omega arith
starts-rise low (s ∷ spans) between zero (suc j) d up within =
    let rest = starts-from (s.at + s.size) spans j d between.1 (omega arith) in omega (arith, rest)
starts-rise low (s ∷ spans) between (suc i) zero d up within = absurd (omega arith)
starts-rise low (s ∷ spans) between (suc i) (suc j) d up within = starts-rise (s.at + s.size) spans between.1 i j d (omega arith) (omega arith)

-- where the first begins behind an address none holds it
pub none-holds : (low : ℕ) (spans : List Span) (a : ℕ) (d : Span) → RiseFrom low spans → (0 < length spans → a < (get_or spans 0 d).at)
    → span_holding spans a ≡ None
none-holds low [] a d between behind = refl
none-holds low (s ∷ spans) a d between behind =
    let first : a < s.at = behind (omega arith) in
    rises-before s.at (s ∷ spans) a (omega arith, between.1) first

-- the last span that begins at an address or before it holds it, or none does
pub last-holds : (low : ℕ) (spans : List Span) (i a : ℕ) (d : Span) → RiseFrom low spans → i < length spans → (get_or spans i d).at ≤ a
    → (suc i < length spans → a < (get_or spans (suc i) d).at) → span_holding spans a ≡ cond (in_span (get_or spans i d) a) (Some (get_or spans i d)) None
last-holds low [] i a d between within begun behind = absurd (omega arith)
last-holds low (s ∷ spans) zero a d between within begun behind =
    let rest : span_holding spans a ≡ None = none-holds (s.at + s.size) spans a d between.1 (λ some. behind (omega arith)) in
    ap (λ o. cond (in_span s a) (Some s) o) rest
last-holds low (s ∷ spans) (suc i) a d between within begun behind =
    let from = starts-from (s.at + s.size) spans i d between.1 (omega arith) in
    let past : s.at + s.size ≤ a = omega (arith, from, begun) in
    rw (in-behind s a past) (last-holds (s.at + s.size) spans i a d between.1 (omega arith) begun (λ more. behind (omega arith)))

-- so many spans begin at an address or before it: none

pub found-none : (spans : List Span) (n a : ℕ) (d : Span) → RiseFrom 0 spans
    → IsPartitionPoint (λ (s : Span). leb s.at a ≡ true) (λ (s : Span). leb s.at a ≡ false) spans n → n ≡ 0 → span_holding spans a ≡ None
found-none spans n a d between point none =
    none-holds 0 spans a d between (λ some. leb-false (get_or spans 0 d).at a (point.1 0 d (omega arith) some))

-- or some
pub found-last : (spans : List Span) (n a : ℕ) (d : Span) → RiseFrom 0 spans
    → IsPartitionPoint (λ (s : Span). leb s.at a ≡ true) (λ (s : Span). leb s.at a ≡ false) spans n → (n ≡ 0 → ⊥) → n ≤ length spans
    → ((get_or spans (n - 1) d).at ≤ a) × (span_holding spans a ≡ cond (in_span (get_or spans (n - 1) d) a) (Some (get_or spans (n - 1) d)) None)
found-last spans zero a d between point some within = absurd (some refl)
found-last spans (suc n) a d between point some within =
    let n-is : suc n - 1 ≡ n = omega arith in
    let begun : (get_or spans n d).at ≤ a = leb-true (get_or spans n d).at a (point.0 n d (omega arith) (omega arith)) in
    rw n-is (
      begun,
      last-holds 0 spans n a d between (omega arith) begun
          (λ more. leb-false (get_or spans (suc n) d).at a (point.1 (suc n) d (omega arith) more)),
    )
