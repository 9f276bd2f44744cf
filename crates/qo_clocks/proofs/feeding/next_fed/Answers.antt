use Rattle.std.proofs.Common.{◌∙◌, sym, arith}
use Rattle.qo_clocks.proofs.FeedingLemmas.{next-found, next-none, next-passed, owner-born, owner-high, owner-live, passes-none}
use Rattle.qo_clocks.proofs.feeding.next_fed.Goals as goal

pub loop-n-init : goal.loop-n-init
loop-n-init g c = passes-none c.args.heap.now c.args.c.birth c.args.above

pub goes_by-requires : goal.goes_by-requires
goes_by-requires g c =
    owner-live c.args.heap.now c.reveal_invariant.ensures c.args.c.birth c.args.above c.loop-n.passed c.loop-n.invariant c.in-Some.n
    (sym c.in-Some.ensures.owner)

pub returns-then-goes_by-clause-some : goal.returns-then-goes_by-clause-some
returns-then-goes_by-clause-some g c =
    next-found c.args.heap.now c.reveal_invariant.ensures c.args.c.birth c.args.above c.loop-n.passed c.loop-n.invariant c.in-Some.n
    (sym c.in-Some.ensures.owner) (sym c.goes_by.ensures ∙ c.if-goes_by.true)

pub loop-n-smaller : goal.loop-n-smaller
loop-n-smaller g c =
    let high =
    owner-high c.args.heap.now c.reveal_invariant.ensures c.args.c.birth c.args.above c.loop-n.passed c.loop-n.invariant c.in-Some.n
    (sym c.in-Some.ensures.owner) in
    let born =
    owner-born c.args.heap.now c.reveal_invariant.ensures c.args.c.birth c.args.above c.loop-n.passed c.loop-n.invariant c.in-Some.n
    (sym c.in-Some.ensures.owner) in
    omega (arith, high, born)

pub loop-n-preserved : goal.loop-n-preserved
loop-n-preserved g c =
    next-passed c.args.heap.now c.reveal_invariant.ensures c.args.c.birth c.args.above c.loop-n.passed c.loop-n.invariant c.in-Some.n
    (sym c.in-Some.ensures.owner) (sym c.goes_by.ensures ∙ c.if-goes_by.false)

pub returns-clause-none : goal.returns-clause-none
returns-clause-none g c =
    next-none c.args.heap.now c.reveal_invariant.ensures c.args.c.birth c.args.above c.loop-n.passed c.loop-n.invariant (sym c.in_default.ensures.owner)
