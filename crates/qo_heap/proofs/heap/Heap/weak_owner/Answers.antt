use Rattle.qo_heap.proofs.InsideObjects.{entries}
use Rattle.qo_heap.proofs.KeepingLemmas.{live-entry}
use Rattle.qo_heap.proofs.RowsLemmas.{live-stored, object-found}
use Rattle.qo_heap.proofs.WeakOwners.{in-end, in-live, in-next, walk-init}
use Rattle.qo_heap.proofs.heap.Heap.weak_owner.Goals as goal

pub look-requires : goal.look-requires
look-requires g c =
    live-stored c.self.inside.table c.self.inside.order.items c.self.invariant.1.0.stored c.args.o
    (live-entry (entries c.self.inside) c.args.o (rw (← c.self.view_is) at c.requires))

pub loop-next-init : goal.loop-next-init
loop-next-init g c =
    walk-init c.self.inside c.self.invariant c.args.o c.look.result.now
    (object-found c.self.inside.table c.self.inside.order.items c.self.invariant.1.0.stored c.args.o
    (live-entry (entries c.self.inside) c.args.o (rw (← c.self.view_is) at c.requires)) c.look.result.now c.look.ensures.value)
    c.first-next.result c.first-next.ensures c.args.above c.args.steps.now c.look.new.steps c.look.ensures.cost

pub look-requires-in-Some : goal.look-requires-in-Some
look-requires-in-Some g c =
    live-stored c.self.inside.table c.self.inside.order.items c.self.invariant.1.0.stored c.in-Some.link.owner
    (in-live c.self.inside c.args.o c.args.above c.args.steps.now c.loop-next.steps c.loop-next.next c.loop-next.owner c.loop-next.invariant c.in-Some.link
    c.in-Some.is)

pub loop-next-preserved : goal.loop-next-preserved
loop-next-preserved g c =
    in-next c.self.inside c.args.o c.args.above c.args.steps.now c.loop-next.steps c.loop-next.next c.loop-next.owner c.loop-next.invariant c.in-Some.link
    c.in-Some.is c.look-in-Some.result.now
    (object-found c.self.inside.table c.self.inside.order.items c.self.invariant.1.0.stored c.in-Some.link.owner
    (in-live c.self.inside c.args.o c.args.above c.args.steps.now c.loop-next.steps c.loop-next.next c.loop-next.owner c.loop-next.invariant c.in-Some.link
    c.in-Some.is) c.look-in-Some.result.now c.look-in-Some.ensures.value)
    c.next_of-next.result c.next_of-next.ensures c.look-in-Some.new.steps c.look-in-Some.ensures.cost c.nearer-owner.result c.nearer-owner.ensures

pub returns-clause-owner : goal.returns-clause-owner
returns-clause-owner g c =
    rw (← c.self.view_is)
    (in-end c.self.inside c.args.o c.args.above c.args.steps.now c.loop-next.steps c.loop-next.next c.loop-next.owner c.loop-next.invariant c.in_default.is).0
