-- The least number that passes a test.
use Rattle.std.proofs.Common.{◌≡◌, ℕ, zero, suc, ◌+◌, ◌<◌, ◌≤◌, Bool, true, false, Some, None, refl, arith, ⊎_elim}
use Rattle.std.proofs.lemmas.Bool.{cases_lt}
use Rattle.qo_values.specs.Placing.{least}

-- one that passes, and below which none does, is the least
pub least-found : (test : ℕ → Bool) (first more at : ℕ) → first ≤ at → at < first + more → test at ≡ true
    → ((lower : ℕ) → first ≤ lower → lower < at → test lower ≡ false) → least test first more ≡ Some at
unfolding least
least-found test first zero at from below passes lower = absurd (omega arith)
least-found test first (suc more) at from below passes lower =
    ⊎_elim
    (λ past. rw (lower first (omega arith) past)
    (least-found test (first + 1) more at (omega arith) (omega arith) passes (λ n from' below'. lower n (omega arith) below')))
    (λ up. let same : first ≡ at = omega arith in rw same (rw passes refl))
    (cases_lt first at)

-- where none passes there is none
pub least-none : (test : ℕ → Bool) (first more : ℕ) → ((at : ℕ) → first ≤ at → at < first + more → test at ≡ false) → least test first more ≡ None
unfolding least
least-none test first zero none = refl
least-none test first (suc more) none =
    rw (none first (omega arith) (omega arith)) (least-none test (first + 1) more (λ at from below. none at (omega arith) (omega arith)))
