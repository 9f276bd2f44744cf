use Rattle.std.proofs.Common.{◌∙◌, ◌-◌, Some, None, sym}
use Rattle.qo_model.proofs.DepthLemmas.{one-less}
use Rattle.qo_heap.proofs.ActsLemmas.{acts-none}
use Rattle.qo_reset.specs.Counts.{is_full}
use Rattle.qo_reset.proofs.WalkLemmas.{Reads, found-here, found-last, found-no_kid, found-not, less, none-found}
use Rattle.qo_reset.proofs.counts.+exceeds_depth_below.Goals.{in-Some-child+else-exceeds_depth_below, in_default-child}
use Rattle.qo_reset.proofs.counts.+exceeds_depth_below.Goals as goal

pub returns-then-levels-eq0 : goal.returns-then-levels-eq0
returns-then-levels-eq0 g t c =
    rw c.if-levels-eq0.true (sym (none-found c.args.heap.now c.args.from.birth (is_full c.args.heap.now)))

pub returns-then-exceeds_depth_below : goal.returns-then-exceeds_depth_below
returns-then-exceeds_depth_below g t c =
    let read : Reads c.args.heap.now c.is_bus-bus.result c.args.from.birth c.loop-child.at (Some (Some c.in-Some-child.child)) =
    rw (sym c.in-Some-child.is) c.in-Some.ensures.below in
    sym
    (found-here c.args.heap.now c.args.levels (c.args.levels - 1) c.args.from.birth c.loop-child.at
    (is_full c.args.heap.now)
    c.is_bus-bus.result c.in-Some-child.child (one-less c.args.levels c.if-levels-eq0.false) c.is_bus-bus.ensures read c.loop-child.invariant
    (sym c.exceeds_depth_below.ensures ∙ c.if-exceeds_depth_below.true))

pub loop-child-smaller : goal.loop-child-smaller
loop-child-smaller g t c =
    less c.args.heap.now c.args.heap.now (acts-none c.args.heap.now) c.is_bus-bus.result c.args.from.birth c.loop-child.at c.in-Some.child
    c.in-Some.ensures.below

pub loop-child-preserved : goal.loop-child-preserved
loop-child-preserved g t c =
    elim c.match-child.branch [
      | in-Some-child+else-exceeds_depth_below w ↦
          let read : Reads c.args.heap.now c.is_bus-bus.result c.args.from.birth c.loop-child.at (Some (Some w.in-Some-child.child)) =
          rw (sym w.in-Some-child.is) c.in-Some.ensures.below in
          found-not c.args.heap.now (c.args.levels - 1) c.args.from.birth c.loop-child.at (is_full c.args.heap.now)
          c.is_bus-bus.result w.in-Some-child.child c.is_bus-bus.ensures read c.loop-child.invariant
          (sym w.exceeds_depth_below.ensures ∙ w.if-exceeds_depth_below.false)
      | in_default-child w ↦
          let read : Reads c.args.heap.now c.is_bus-bus.result c.args.from.birth c.loop-child.at (Some None) =
          rw (sym w.in_default-child.is) c.in-Some.ensures.below in
          found-no_kid c.args.heap.now (c.args.levels - 1) c.args.from.birth c.loop-child.at (is_full c.args.heap.now)
          c.is_bus-bus.result c.is_bus-bus.ensures read c.loop-child.invariant
    ]

pub returns : goal.returns
returns g t c =
    c.is_full.ensures
    ∙ sym
    (found-last c.args.heap.now c.args.levels (c.args.levels - 1) c.args.from.birth c.loop-child.at
    (is_full c.args.heap.now)
    c.is_bus-bus.result (one-less c.args.levels c.if-levels-eq0.false) (sym c.in_default.is ∙ c.below_at.ensures.below) c.loop-child.invariant)
