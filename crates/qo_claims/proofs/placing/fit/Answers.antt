-- the next multiple is the least from there on
use Rattle.std.proofs.Common.{◌≡◌, ◌^◌, arith, ⊎_elim}
use Rattle.std.proofs.lemmas.Bool.{cases_lt}
use Rattle.std.specs.Int.{next_multiple_of}
use Rattle.qo_claims.proofs.Multiples.{IsNextMultiple, next-multiple, least-multiple}
use Rattle.qo_claims.proofs.placing.fit.Goals as goal
use Rattle.qo_claims.proofs.placing.fit.Goals.{else-at-end-via-then-at-end+else-size-end, else-at-end-via-else-at-end}

pub returns-in_err-at : goal.returns-in_err-at
returns-in_err-at c =
    let next = next-multiple c.args.from c.args.align c.requires in
    rw c.from_residual.ensures (λ at from multiple.
    let least = least-multiple c.args.from c.args.align (next_multiple_of c.args.from c.args.align) at c.requires next from multiple in
    ⊎_elim
    (λ fits. absurd (c.in_err-at.ensures (c.requires, fits)))
    (λ past. omega (arith, c.ranges.end.fits))
    (cases_lt (next_multiple_of c.args.from c.args.align) (2 ^ 64)))

pub returns-then-size-end : goal.returns-then-size-end
returns-then-size-end c =
    let same : c.in_ok-at.at ≡ next_multiple_of c.args.from c.args.align = c.in_ok-at.ensures.1 in
    let next : IsNextMultiple c.args.from c.args.align c.in_ok-at.at = rw same (next-multiple c.args.from c.args.align c.requires) in
    (next.above, next.multiple, omega arith, λ lower from multiple. least-multiple c.args.from c.args.align c.in_ok-at.at lower c.requires next from multiple)

pub returns-else-at-end : goal.returns-else-at-end
returns-else-at-end c =
    let same : c.in_ok-at.at ≡ next_multiple_of c.args.from c.args.align = c.in_ok-at.ensures.1 in
    let next : IsNextMultiple c.args.from c.args.align c.in_ok-at.at = rw same (next-multiple c.args.from c.args.align c.requires) in
    λ at from multiple.
    let least = least-multiple c.args.from c.args.align c.in_ok-at.at at c.requires next from multiple in
    elim c.else-at-end.branch [ else-at-end-via-then-at-end+else-size-end w ↦ omega arith | else-at-end-via-else-at-end w ↦ omega arith ]
