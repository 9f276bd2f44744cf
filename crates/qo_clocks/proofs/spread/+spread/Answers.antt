use Rattle.std.proofs.Common.{◌-◌, rules}
use Rattle.qo_heap.specs.Moments.{Timely}
use Rattle.qo_heap.specs.Rows.{IsLive}
use Rattle.qo_model.proofs.DepthLemmas.{one-less}
use Rattle.qo_clocks.proofs.SpreadLemmas.{first-timely, next-live, next-timely, spread-none, spread-still, spreads-end, spreads-init, spreads-live, spreads-next}
use Rattle.qo_clocks.proofs.spread.+spread.Goals as goal

pub returns-then-levels-eq0 : goal.returns-then-levels-eq0
returns-then-levels-eq0 g t c = rw c.if-levels-eq0.true (spread-none c.args.heap.now c.args.c.birth c.args.before c.args.after)

pub returns-then-before-after : goal.returns-then-before-after
returns-then-before-after g t c =
    spread-still c.args.heap.now c.args.levels (c.args.levels - 1) c.args.c.birth c.args.before c.args.after (one-less c.args.levels c.if-levels-eq0.false)
    c.if-before-after.true

pub loop-n-init : goal.loop-n-init
loop-n-init g t c =
    spreads-init c.args.heap.now (c.args.levels - 1) c.args.c.birth c.args.before c.args.after c.reveal_invariant.ensures c.requires.timely

pub next_fed-requires : goal.next_fed-requires
next_fed-requires g t c =
    spreads-live c.args.heap.now (c.args.levels - 1) c.args.c.birth c.args.before c.args.after c.loop-n.above c.loop-n.heap c.loop-n.invariant c.args.c
    c.requires.live

pub call_back-requires : goal.call_back-requires
call_back-requires g t c =
    first-timely c.args.heap.now (c.args.levels - 1) c.args.c.birth c.args.before c.args.after c.loop-n.above c.loop-n.heap c.loop-n.invariant
    c.in-Some.n.birth c.scaled-after_below.result c.in-Some.ensures.some.fed c.scaled-after_below.ensures c.keep.new.heap c.keep.ensures

pub spread-requires : goal.spread-requires
spread-requires g t c =
    let live : IsLive c.call_back.new.heap.rows c.in-Some.n =
    next-live c.args.heap.now (c.args.levels - 1) c.args.c.birth c.args.before c.args.after c.loop-n.above c.loop-n.heap c.loop-n.invariant
    c.in-Some.n.birth c.scaled-after_below.result c.in-Some.ensures.some.fed c.scaled-after_below.ensures c.keep.new.heap c.keep.ensures
    c.call_back.new.heap c.call_back.ensures c.in-Some.n c.in-Some.ensures.some.live in
    let all : Timely c.call_back.new.heap =
    next-timely c.args.heap.now (c.args.levels - 1) c.args.c.birth c.args.before c.args.after c.loop-n.above c.loop-n.heap c.loop-n.invariant
    c.in-Some.n.birth c.scaled-after_below.result c.in-Some.ensures.some.fed c.scaled-after_below.ensures c.keep.new.heap c.keep.ensures
    c.call_back.new.heap c.call_back.ensures in
    search (rules, live, all)

pub loop-n-preserved : goal.loop-n-preserved
loop-n-preserved g t c =
    spreads-next c.args.heap.now (c.args.levels - 1) c.args.c.birth c.args.before c.args.after c.loop-n.above c.loop-n.heap c.loop-n.invariant
    c.in-Some.n.birth c.scaled-after_below.result c.in-Some.ensures.some.fed c.scaled-after_below.ensures c.keep.new.heap c.keep.ensures
    c.call_back.new.heap c.call_back.ensures c.scaled-before_below.result c.scaled-before_below.ensures c.spread.new.heap c.spread.ensures

pub returns : goal.returns
returns g t c =
    spreads-end c.args.heap.now (c.args.levels - 1) c.args.c.birth c.args.before c.args.after c.args.levels c.loop-n.above c.loop-n.heap
    (one-less c.args.levels c.if-levels-eq0.false) c.if-before-after.false c.loop-n.invariant c.in_default.ensures.none
