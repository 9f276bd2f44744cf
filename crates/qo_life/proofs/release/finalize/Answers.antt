use Rattle.qo_object.specs.Slots.{referent}
use Rattle.qo_life.proofs.ReleaseLemmas.{none-given, turn-live}
use Rattle.qo_life.proofs.WorkLemmas.{at-bare, at-end, at-first, at-free, at-on, end-cost, front-live, next-live, paid-shown, running-at, running-done, smaller-as, smaller-end, smaller-on, turn-cost}
use Rattle.qo_life.proofs.release.finalize.Goals as goal

pub loop-front-init : goal.loop-front-init
loop-front-init g c = at-first c.args.heap.now c.reveal_invariant.ensures c.args.o c.requires.live c.requires.free c.args.steps.now

pub turn_at-requires : goal.turn_at-requires
turn_at-requires g c =
    (running-at c.args.heap.now c.loop-front.heap c.args.o.birth _ c.loop-front.steps c.loop-front.front c.in-Some.now c.in-Some.is c.loop-front.invariant).here.live

pub empty_named-requires-clause-live : goal.empty_named-requires-clause-live
empty_named-requires-clause-live g c =
    (running-at c.args.heap.now c.loop-front.heap c.args.o.birth _ c.loop-front.steps c.loop-front.front c.in-Some.now c.in-Some.is c.loop-front.invariant).here.live

pub go_on-requires-clause-live : goal.go_on-requires-clause-live
go_on-requires-clause-live g c =
    front-live c.loop-front.heap c.empty_named.new.heap c.in-Some.now c.empty_named.ensures.now
    (running-at c.args.heap.now c.loop-front.heap c.args.o.birth _ c.loop-front.steps c.loop-front.front c.in-Some.now c.in-Some.is c.loop-front.invariant).here.live

pub go_on-requires-clause-held : goal.go_on-requires-clause-held
go_on-requires-clause-held g c =
    turn-live c.loop-front.heap c.empty_named.new.heap c.reveal_invariant-in-Some.ensures c.in-Some.now.o.birth c.in-Some.now.at c.in-Some-turn_at.turn.held
    c.in-Some-turn_at.ensures.held c.empty_named.ensures.now

pub loop-front-smaller-in-Some-turn_at : goal.loop-front-smaller-in-Some-turn_at
loop-front-smaller-in-Some-turn_at g c =
    smaller-as c.loop-front.heap c.loop-front.front c.in-Some.now _ c.in-Some.is
    (smaller-on c.loop-front.heap c.empty_named.new.heap c.go_on.new.heap c.in-Some.now c.in-Some-turn_at.turn.held c.in-Some-turn_at.turn.next c.go_on.result
    c.in-Some-turn_at.ensures.held c.in-Some-turn_at.ensures.next c.empty_named.ensures.now c.go_on.ensures.goes)

pub loop-front-preserved-in-Some-turn_at : goal.loop-front-preserved-in-Some-turn_at
loop-front-preserved-in-Some-turn_at g c =
    at-on c.args.heap.now c.loop-front.heap c.empty_named.new.heap c.go_on.new.heap c.args.o.birth _ c.loop-front.steps c.go_on.new.steps c.in-Some.now
    c.in-Some-turn_at.turn.held c.in-Some-turn_at.turn.next c.go_on.result
    (turn-cost c.loop-front.steps c.turn_at.new.steps c.empty_named.new.steps c.go_on.new.steps c.in-Some-turn_at.ensures.cost c.empty_named.ensures.cost c.go_on.ensures.cost)
    c.reveal_invariant-in-Some.ensures
    (running-at c.args.heap.now c.loop-front.heap c.args.o.birth _ c.loop-front.steps c.loop-front.front c.in-Some.now c.in-Some.is c.loop-front.invariant)
    c.in-Some-turn_at.ensures.held c.in-Some-turn_at.ensures.next c.empty_named.ensures.now c.reveal_invariant-in-Some-turn_at.ensures c.go_on.ensures.goes

pub finish-requires-clause-live : goal.finish-requires-clause-live
finish-requires-clause-live g c =
    (running-at c.args.heap.now c.loop-front.heap c.args.o.birth _ c.loop-front.steps c.loop-front.front c.in-Some.now c.in-Some.is c.loop-front.invariant).here.live

pub finish-requires-clause-free : goal.finish-requires-clause-free
finish-requires-clause-free g c =
    at-free c.args.heap.now c.loop-front.heap c.args.o.birth _ c.loop-front.steps c.in-Some.now c.reveal_invariant-in-Some.ensures
    (running-at c.args.heap.now c.loop-front.heap c.args.o.birth _ c.loop-front.steps c.loop-front.front c.in-Some.now c.in-Some.is c.loop-front.invariant)

pub finish-requires-clause-bare : goal.finish-requires-clause-bare
finish-requires-clause-bare g c =
    at-bare c.args.heap.now c.loop-front.heap c.args.o.birth _ c.loop-front.steps c.in-Some.now
    (running-at c.args.heap.now c.loop-front.heap c.args.o.birth _ c.loop-front.steps c.loop-front.front c.in-Some.now c.in-Some.is c.loop-front.invariant)
    (none-given referent _ c.in-None.ensures.held)

pub front_of-front-requires : goal.front_of-front-requires
front_of-front-requires g c =
    next-live c.args.heap.now c.loop-front.heap c.finish.new.self c.args.o.birth _ c.loop-front.steps c.in-Some.now c.reveal_invariant-in-Some.ensures
    (running-at c.args.heap.now c.loop-front.heap c.args.o.birth _ c.loop-front.steps c.loop-front.front c.in-Some.now c.in-Some.is c.loop-front.invariant)
    (none-given referent _ c.in-None.ensures.held) c.finish.ensures.now

pub loop-front-smaller : goal.loop-front-smaller
loop-front-smaller g c =
    smaller-as c.loop-front.heap c.loop-front.front c.in-Some.now _ c.in-Some.is
    (smaller-end c.args.heap.now c.loop-front.heap c.finish.new.self c.args.o.birth _ c.loop-front.steps c.in-Some.now c.front_of-front.result c.reveal_invariant-in-Some.ensures
    (running-at c.args.heap.now c.loop-front.heap c.args.o.birth _ c.loop-front.steps c.loop-front.front c.in-Some.now c.in-Some.is c.loop-front.invariant) c.finish.ensures.now)

pub loop-front-preserved : goal.loop-front-preserved
loop-front-preserved g c =
    at-end c.args.heap.now c.loop-front.heap c.finish.new.self c.args.o.birth _ c.loop-front.steps c.front_of-front.new.steps c.in-Some.now
    c.front_of-front.result
    (end-cost c.loop-front.steps c.turn_at.new.steps c.finish.new.steps c.front_of-front.new.steps c.in-Some.now.o.birth c.loop-front.heap
    c.in-None.ensures.cost c.finish.ensures.cost c.front_of-front.ensures.cost)
    c.reveal_invariant-in-Some.ensures
    (running-at c.args.heap.now c.loop-front.heap c.args.o.birth _ c.loop-front.steps c.loop-front.front c.in-Some.now c.in-Some.is c.loop-front.invariant)
    (none-given referent _ c.in-None.ensures.held) c.finish.ensures.now c.front_of-front.ensures.front

pub returns-clause-goes : goal.returns-clause-goes
returns-clause-goes g c =
    (running-done c.args.heap.now c.loop-front.heap c.args.o.birth _ c.loop-front.steps c.loop-front.front c.in_default.is c.loop-front.invariant).goes

pub returns-clause-paid : goal.returns-clause-paid
returns-clause-paid g c =
    paid-shown c.args.heap.now c.loop-front.heap c.args.o.birth c.args.steps.now c.loop-front.steps
    (running-done c.args.heap.now c.loop-front.heap c.args.o.birth _ c.loop-front.steps c.loop-front.front c.in_default.is c.loop-front.invariant)
