use Rattle.std.proofs.Common.{arith}
use Rattle.qo_memmap.proofs.MergeLemmas.{run-holds-at, run-gap-at, ahead-end}
use Rattle.qo_memmap.proofs.merge.run_at.Goals as goal

pub overflow_add-result : goal.overflow_add-result
overflow_add-result c =
    let end = ahead-end c.args.left.now c.in-Some.layer.now c.args.at c.args.end c.requires.ahead c.in-Some.ensures.item.0 c.in-Some.ensures.item.1 in
    omega (arith, end, c.ranges.end.fits)

pub returns-then-layer-at : goal.returns-then-layer-at
returns-then-layer-at c =
    run-holds-at c.args.left.now c.in-Some.layer.now c.args.at c.args.end c.requires.ahead c.requires.fit c.in-Some.ensures.item.0 c.in-Some.ensures.item.1 c.if-layer-at.true

pub returns-else-layer-at : goal.returns-else-layer-at
returns-else-layer-at c =
    run-gap-at c.args.left.now c.in-Some.layer.now c.args.at c.args.end c.requires.ahead c.in-Some.ensures.item.0 c.in-Some.ensures.item.1 c.if-layer-at.false
