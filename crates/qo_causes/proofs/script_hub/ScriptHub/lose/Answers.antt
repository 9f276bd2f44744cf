-- Only the count of the session rises.
use Rattle.std.proofs.Common.{◌≡◌, ◌≢◌, ◌≤◌, ◌<◌, ◌==◌, ℕ, Bool, true, false, List, length, slice_index_or, slice_set, arith, refl, subst, ap}
use Rattle.std.proofs.lemmas.Bool.Decides.{nat_tests}
use Rattle.std.proofs.lemmas.List.{get_or-set_same, get_or-set_other}
use Rattle.qo_causes.specs.Cause.{counted}
use Rattle.qo_causes.specs.Hub.{Loses}
use Rattle.qo_causes.specs.Script.{ScriptState}
use Rattle.qo_causes.proofs.script_hub.ScriptHub.lose.Goals as goal

one_loss : (xs : List ℕ) (n t more : ℕ) → n < length xs → more ≡ counted (slice_index_or xs n 0) → slice_index_or xs n 0 ≤ more
    → Loses (t == n) (slice_index_or xs t 0) (slice_index_or (slice_set xs n more) t 0)
one_loss xs n t more within is least = go (t == n) refl
  where
    go : (b : Bool) → (t == n) ≡ b → Loses b (slice_index_or xs t 0) (slice_index_or (slice_set xs n more) t 0)
    go true h =
        let same : t ≡ n = grind (arith, nat_tests) in
        let now : slice_index_or (slice_set xs n more) n 0 ≡ more = get_or-set_same xs n more 0 within in
        rw same (omega (arith, now, is), omega (arith, now, least))
    go false h =
        let other : t ≢ n = grind (arith, nat_tests) in
        get_or-set_other xs n t more 0 other

pub returns-clause-losses : goal.returns-clause-losses
returns-clause-losses c t =
    let losses : List ℕ = c.self.inside.losses in
    let same : losses ≡ c.args.self.now.losses = ap (λ (h : ScriptState). h.losses) c.self.view_is in
    subst (λ (old : List ℕ). Loses (t == c.args.session) (slice_index_or old t 0) (slice_index_or (slice_set losses c.args.session c.one_more.result) t 0)) same
    (one_loss losses c.args.session t c.one_more.result (omega (arith, c.self.told, c.requires)) c.one_more.ensures.value c.one_more.ensures.least)
