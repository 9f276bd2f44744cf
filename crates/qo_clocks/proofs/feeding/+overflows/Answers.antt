use Rattle.std.proofs.Common.{◌∙◌, ◌-◌, sym}
use Rattle.qo_model.proofs.DepthLemmas.{one-less}
use Rattle.qo_clocks.proofs.OverflowLemmas.{left-init, over-found, over-no_levels, over-none, over-stays, over-too_wide, side-child}
use Rattle.qo_clocks.proofs.feeding.+overflows.Goals as goal

pub returns-then-levels-eq0 : goal.returns-then-levels-eq0
returns-then-levels-eq0 g t c = rw c.if-levels-eq0.true (over-no_levels c.args.heap.now c.args.c.birth c.args.period)

pub returns-then-side-period : goal.returns-then-side-period
returns-then-side-period g t c =
    over-stays c.args.heap.now (c.args.levels - 1) c.args.c.birth c.args.period c.args.levels (one-less c.args.levels c.if-levels-eq0.false)
    (side-child c.args.heap.now c.args.c.birth c.side.result c.side.ensures.side ∙ c.if-side-period.true)

pub loop-n-init : goal.loop-n-init
loop-n-init g t c = left-init c.args.heap.now (c.args.levels - 1) c.args.c.birth c.args.period c.reveal_invariant.ensures

pub returns-in_default-child_period : goal.returns-in_default-child_period
returns-in_default-child_period g t c =
    over-too_wide c.args.heap.now (c.args.levels - 1) c.args.c.birth c.args.period c.args.levels (one-less c.args.levels c.if-levels-eq0.false)
    c.in-Some.n.birth c.loop-n.above c.in-Some.ensures.some.fed c.loop-n.invariant
    (λ e. c.if-side-period.false (sym (side-child c.args.heap.now c.args.c.birth c.side.result c.side.ensures.side) ∙ e))
    (sym c.in_default-child_period.is ∙ c.child_period.ensures)

pub returns-then-overflows : goal.returns-then-overflows
returns-then-overflows g t c =
    over-found c.args.heap.now (c.args.levels - 1) c.args.c.birth c.args.period c.args.levels (one-less c.args.levels c.if-levels-eq0.false)
    c.in-Some.n.birth c.loop-n.above c.in-Some-child_period.child c.in-Some.ensures.some.fed c.loop-n.invariant
    (λ e. c.if-side-period.false (sym (side-child c.args.heap.now c.args.c.birth c.side.result c.side.ensures.side) ∙ e))
    c.in-Some-child_period.ensures (sym c.overflows.ensures ∙ c.if-overflows.true)

pub returns : goal.returns
returns g t c =
    over-none c.args.heap.now (c.args.levels - 1) c.args.c.birth c.args.period c.args.levels (one-less c.args.levels c.if-levels-eq0.false) c.loop-n.above
    c.in_default.ensures.none c.loop-n.invariant
    (λ e. c.if-side-period.false (sym (side-child c.args.heap.now c.args.c.birth c.side.result c.side.ensures.side) ∙ e))
