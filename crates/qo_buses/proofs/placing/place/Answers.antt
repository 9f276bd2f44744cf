-- The search goes on after each range that is overlapped.
use Rattle.std.proofs.Common.{◌≡◌, None, sym, ◌∙◌, arith, rules}
use Rattle.qo_buses.proofs.PlacingLemmas.{goes-on, place-found, place-out, place-past, reached-next}
use Rattle.qo_buses.proofs.placing.place.Goals as goal

pub returns-in_err-at-in-Some : goal.returns-in_err-at-in-Some
returns-in_err-at-in-Some c =
    let none : c.from_residual.result ≡ None = search rules in
    none ∙ sym (place-past c.args.ranges.now c.args.size c.loop-at.at c.in-Some.range (sym c.in-Some.ensures) c.loop-at.invariant
    c.in_err-at-in-Some.ensures.past)

pub loop-at-smaller : goal.loop-at-smaller
loop-at-smaller c =
    let up = goes-on c.args.ranges.now c.args.size c.loop-at.at c.in-Some.range (sym c.in-Some.ensures) in
    omega (arith, c.in_ok-at-in-Some.ensures.above, c.loop-at-test.true)

pub loop-at-preserved : goal.loop-at-preserved
loop-at-preserved c =
    reached-next c.args.ranges.now c.args.size c.loop-at.at c.in-Some.range (sym c.in-Some.ensures) c.in_ok-at-in-Some.at c.loop-at.invariant
    c.in_ok-at-in-Some.ensures.multiple c.in_ok-at-in-Some.ensures.above c.in_ok-at-in-Some.ensures.least

pub returns-in-None : goal.returns-in-None
returns-in-None c =
    sym (place-found c.args.ranges.now c.args.size c.loop-at.at c.loop-at.invariant (omega arith) (omega arith) (sym c.in-None.ensures))

pub returns-else-size-at : goal.returns-else-size-at
returns-else-size-at c = sym (place-out c.args.ranges.now c.args.size c.loop-at.at c.loop-at.invariant (λ within. omega arith))

pub returns-after-loop-at : goal.returns-after-loop-at
returns-after-loop-at c = sym (place-out c.args.ranges.now c.args.size c.loop-at.at c.loop-at.invariant (λ within. absurd (omega arith)))
