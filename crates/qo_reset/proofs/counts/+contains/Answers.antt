use Rattle.std.proofs.Common.{◌∙◌, ◌-◌, nat_eq, Some, None, sym}
use Rattle.qo_model.proofs.DepthLemmas.{one-less}
use Rattle.qo_heap.proofs.ActsLemmas.{acts-none}
use Rattle.qo_reset.proofs.WalkLemmas.{Reads, found-here, found-last, found-no_kid, found-not, less, none-found}
use Rattle.qo_reset.proofs.counts.+contains.Goals.{in-Some-child+else-contains, in_default-child}
use Rattle.qo_reset.proofs.counts.+contains.Goals as goal

pub returns-then-levels-eq0 : goal.returns-then-levels-eq0
returns-then-levels-eq0 g t c = rw c.if-levels-eq0.true (sym (none-found c.args.heap.now c.args.from.birth (nat_eq c.args.birth)))

pub returns-then-contains : goal.returns-then-contains
returns-then-contains g t c =
    let read : Reads c.args.heap.now c.is_bus-bus.result c.args.from.birth c.loop-child.at (Some (Some c.in-Some-child.child)) =
    rw (sym c.in-Some-child.is) c.in-Some.ensures.below in
    sym
    (found-here c.args.heap.now c.args.levels (c.args.levels - 1) c.args.from.birth c.loop-child.at (nat_eq c.args.birth) c.is_bus-bus.result
    c.in-Some-child.child (one-less c.args.levels c.if-levels-eq0.false) c.is_bus-bus.ensures read c.loop-child.invariant
    (sym c.contains.ensures ∙ c.if-contains.true))

pub loop-child-smaller : goal.loop-child-smaller
loop-child-smaller g t c =
    less c.args.heap.now c.args.heap.now (acts-none c.args.heap.now) c.is_bus-bus.result c.args.from.birth c.loop-child.at c.in-Some.child
    c.in-Some.ensures.below

pub loop-child-preserved : goal.loop-child-preserved
loop-child-preserved g t c =
    elim c.match-child.branch [
      | in-Some-child+else-contains w ↦
          let read : Reads c.args.heap.now c.is_bus-bus.result c.args.from.birth c.loop-child.at (Some (Some w.in-Some-child.child)) =
          rw (sym w.in-Some-child.is) c.in-Some.ensures.below in
          found-not c.args.heap.now (c.args.levels - 1) c.args.from.birth c.loop-child.at (nat_eq c.args.birth) c.is_bus-bus.result w.in-Some-child.child
          c.is_bus-bus.ensures read c.loop-child.invariant (sym w.contains.ensures ∙ w.if-contains.false)
      | in_default-child w ↦
          let read : Reads c.args.heap.now c.is_bus-bus.result c.args.from.birth c.loop-child.at (Some None) =
          rw (sym w.in_default-child.is) c.in-Some.ensures.below in
          found-no_kid c.args.heap.now (c.args.levels - 1) c.args.from.birth c.loop-child.at (nat_eq c.args.birth) c.is_bus-bus.result c.is_bus-bus.ensures read
          c.loop-child.invariant
    ]

pub returns : goal.returns
returns g t c =
    sym
    (found-last c.args.heap.now c.args.levels (c.args.levels - 1) c.args.from.birth c.loop-child.at (nat_eq c.args.birth) c.is_bus-bus.result
    (one-less c.args.levels c.if-levels-eq0.false) (sym c.in_default.is ∙ c.below_at.ensures.below) c.loop-child.invariant)
