-- The least number that passes does pass.
use Rattle.std.proofs.Common.{◌≡◌, refl, ap, sym, ◌∙◌, ℕ, zero, suc, ◌+◌, Bool, true, false, Some}
use Rattle.std.proofs.lemmas.Option.{same_Some}
use Rattle.qo_values.specs.Placing.{least}

pub least-passes : (test : ℕ → Bool) (first more at : ℕ) → least test first more ≡ Some at → test at ≡ true
unfolding least
least-passes test first zero at found = cc
least-passes test first (suc more) at found = go (test first) refl (least-passes test (first + 1) more at)
  where
    go : (b : Bool) → test first ≡ b → (least test (first + 1) more ≡ Some at → test at ≡ true) → test at ≡ true
    go true is later = let same : first ≡ at = same_Some first at (rw is at found) in ap test (sym same) ∙ is
    go false is later = later (rw is at found)
