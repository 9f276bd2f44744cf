use Rattle.std.proofs.Common.{◌∙◌, ◌-◌, Some, None, sym}
use Rattle.qo_model.proofs.DepthLemmas.{one-less}
use Rattle.qo_heap.specs.Acts.{Acts}
use Rattle.qo_heap.proofs.ActsLemmas.{acts-none}
use Rattle.qo_reset.specs.Phases.{births_of}
use Rattle.qo_reset.proofs.WalkLemmas.{Reads, less, live-to, none-visited, to-all, to-kid, to-no_kid, to-none, visited-acts}
use Rattle.qo_reset.proofs.turns.+visit.Goals.{in-Some-child, in_default-child}
use Rattle.qo_reset.proofs.turns.+visit.Goals as goal

pub returns-then-levels-eq0 : goal.returns-then-levels-eq0
returns-then-levels-eq0 g t c = rw c.if-levels-eq0.true (none-visited c.args.turn (births_of c.args.holds.now) c.args.o.birth c.args.heap.now)

pub loop-child-init : goal.loop-child-init
loop-child-init g t c = to-none c.args.turn (births_of c.args.holds.now) (c.args.levels - 1) c.args.o.birth c.args.heap.now

pub below_at-requires : goal.below_at-requires
below_at-requires g t c =
    live-to c.args.turn (births_of c.args.holds.now) (c.args.levels - 1) c.args.o.birth c.loop-child.at c.args.heap.now c.loop-child.heap
    c.args.o c.loop-child.invariant c.requires.live

pub loop-child-smaller : goal.loop-child-smaller
loop-child-smaller g t c =
    elim c.match-child.branch [
      | in-Some-child w ↦
          let acts : Acts c.loop-child.heap c.match-child.heap =
          rw (w.heap-is, w.visit.ensures)
          (visited-acts c.args.turn (births_of c.args.holds.now) (c.args.levels - 1) w.in-Some-child.child.birth c.loop-child.heap) in
          less c.loop-child.heap c.match-child.heap acts c.is_bus-bus.result c.args.o.birth c.loop-child.at c.in-Some.child c.in-Some.ensures.below
      | in_default-child w ↦
          let acts : Acts c.loop-child.heap c.match-child.heap = rw w.heap-is (acts-none c.loop-child.heap) in
          less c.loop-child.heap c.match-child.heap acts c.is_bus-bus.result c.args.o.birth c.loop-child.at c.in-Some.child c.in-Some.ensures.below
    ]

pub loop-child-preserved : goal.loop-child-preserved
loop-child-preserved g t c =
    elim c.match-child.branch [
      | in-Some-child w ↦
          let read : Reads c.loop-child.heap c.is_bus-bus.result c.args.o.birth c.loop-child.at (Some (Some w.in-Some-child.child)) =
          rw (sym w.in-Some-child.is) c.in-Some.ensures.below in
          w.heap-is ∙ w.visit.ensures
          ∙ to-kid c.args.turn (births_of c.args.holds.now) (c.args.levels - 1) c.args.o.birth c.loop-child.at c.args.heap.now c.loop-child.heap
          c.is_bus-bus.result w.in-Some-child.child c.loop-child.invariant c.is_bus-bus.ensures read
      | in_default-child w ↦
          let read : Reads c.loop-child.heap c.is_bus-bus.result c.args.o.birth c.loop-child.at (Some None) =
          rw (sym w.in_default-child.is) c.in-Some.ensures.below in
          w.heap-is
          ∙ to-no_kid c.args.turn (births_of c.args.holds.now) (c.args.levels - 1) c.args.o.birth c.loop-child.at c.args.heap.now
          c.loop-child.heap c.is_bus-bus.result c.loop-child.invariant c.is_bus-bus.ensures read
    ]

pub turn_one-requires-clause-live : goal.turn_one-requires-clause-live
turn_one-requires-clause-live g t c =
    live-to c.args.turn (births_of c.args.holds.now) (c.args.levels - 1) c.args.o.birth c.loop-child.at c.args.heap.now c.loop-child.heap
    c.args.o c.loop-child.invariant c.requires.live

pub returns : goal.returns
returns g t c =
    c.turn_one.ensures
    ∙ to-all c.args.turn (births_of c.args.holds.now) c.args.levels (c.args.levels - 1) c.args.o.birth c.loop-child.at c.args.heap.now
    c.loop-child.heap c.is_bus-bus.result (one-less c.args.levels c.if-levels-eq0.false) c.loop-child.invariant c.is_bus-bus.ensures
    (sym c.in_default.is ∙ c.below_at.ensures.below)
