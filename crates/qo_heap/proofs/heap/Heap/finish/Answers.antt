use Rattle.std.proofs.Common.{sym, ap, ◌∙◌, option_map, arith}
use Rattle.qo_object.specs.Content.{Content}
use Rattle.qo_heap.specs.Objects.{Objects, content_of, ended}
use Rattle.qo_heap.proofs.EndedLinks.{lets-next, lets-none, one-less}
use Rattle.qo_heap.proofs.heap.Heap.finish.Goals as goal

pub loop-init : goal.loop-init
loop-init g c = lets-none c.args.o c.args.self.now c.args.steps.now c.requires.live c.requires.free c.requires.bare

pub loop-smaller : goal.loop-smaller
loop-smaller g c =
    omega (arith, one-less c.args.o.birth c.loop.self c.drop_weak_end.new.self (c.drop_weak_end.ensures.dropped c.loop-test.true))

pub loop-preserved : goal.loop-preserved
loop-preserved g c =
    lets-next c.args.o c.args.self.now c.loop.self c.drop_weak_end.new.self c.args.steps.now c.loop.steps c.drop_weak_end.new.steps c.loop.invariant
    (c.drop_weak_end.ensures.dropped c.loop-test.true) (c.drop_weak_end.ensures.cost c.loop-test.true)

pub remove-requires-clause-live : goal.remove-requires-clause-live
remove-requires-clause-live g c = rw (c.drop_weak_end.ensures.same c.loop-test.false) c.loop.invariant.live

pub remove-requires-clause-free : goal.remove-requires-clause-free
remove-requires-clause-free g c = rw (c.drop_weak_end.ensures.same c.loop-test.false) c.loop.invariant.free

pub remove-requires-clause-bare : goal.remove-requires-clause-bare
remove-requires-clause-bare g c = rw (c.drop_weak_end.ensures.same c.loop-test.false) c.loop.invariant.bare

pub remove-requires-clause-alone : goal.remove-requires-clause-alone
remove-requires-clause-alone g c = rw (c.drop_weak_end.ensures.same c.loop-test.false) (c.drop_weak_end.ensures.none c.loop-test.false)

pub returns-clause-now : goal.returns-clause-now
returns-clause-now g c =
    sym c.loop.invariant.left
    ∙ sym (ap (λ (v : Objects). option_map (λ (x : Content). ended c.args.o.birth x v) (content_of v c.args.o.birth)) (c.drop_weak_end.ensures.same c.loop-test.false))
    ∙ c.remove.ensures.now

pub returns-clause-cost : goal.returns-clause-cost
returns-clause-cost g c = omega (arith, c.loop.invariant.cost, c.drop_weak_end.ensures.cost_none c.loop-test.false, c.remove.ensures.cost)
