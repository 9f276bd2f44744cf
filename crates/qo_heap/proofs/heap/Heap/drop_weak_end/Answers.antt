use Rattle.qo_heap.proofs.EndsInside.{end-known, end-leaves, end-live, end-numbered, end-ordered, let-gone, let-good, look-there, none-inside}
use Rattle.qo_heap.proofs.InsideObjects.{entries}
use Rattle.qo_heap.proofs.KeepingLemmas.{live-entry}
use Rattle.qo_heap.proofs.RowsLemmas.{live-stored}
use Rattle.qo_heap.proofs.WeakInside.{own-numbered}
use Rattle.qo_heap.proofs.heap.Heap.drop_weak_end.Goals as goal

pub look-requires : goal.look-requires
look-requires g c =
    live-stored c.self.inside.table c.self.inside.order.items c.self.invariant.1.0.stored c.args.o
    (live-entry (entries c.self.inside) c.args.o (rw (← c.self.view_is) at c.requires.live))

pub weak_end-requires : goal.weak_end-requires
weak_end-requires g c = (own-numbered c.self.inside c.self.invariant c.args.o (rw (← c.self.view_is) at c.requires.live) c.look.result.now
    (look-there c.self.inside c.self.invariant c.args.o (rw (← c.self.view_is) at c.requires.live) c.look.result.now c.look.ensures.value)).0

pub entry_mut-requires-clause-live : goal.entry_mut-requires-clause-live
entry_mut-requires-clause-live g c =
    end-live c.self.inside c.self.invariant c.args.o (rw (← c.self.view_is) at c.requires.live) c.look.result.now
    (look-there c.self.inside c.self.invariant c.args.o (rw (← c.self.view_is) at c.requires.live) c.look.result.now c.look.ensures.value) c.in-Some.link c.in-Some.ensures.some

pub drop_link-loose-requires-clause-known : goal.drop_link-loose-requires-clause-known
drop_link-loose-requires-clause-known g c =
    end-known c.self.inside c.self.invariant c.args.o (rw (← c.self.view_is) at c.requires.live) c.look.result.now
    (look-there c.self.inside c.self.invariant c.args.o (rw (← c.self.view_is) at c.requires.live) c.look.result.now c.look.ensures.value) c.in-Some.link
    c.in-Some.ensures.some c.entry_mut.result.now c.entry_mut.ensures.kept

pub drop_link-loose-requires-clause-numbered : goal.drop_link-loose-requires-clause-numbered
drop_link-loose-requires-clause-numbered g c =
    end-numbered c.self.inside c.self.invariant c.args.o (rw (← c.self.view_is) at c.requires.live) c.look.result.now
    (look-there c.self.inside c.self.invariant c.args.o (rw (← c.self.view_is) at c.requires.live) c.look.result.now c.look.ensures.value) c.in-Some.link
    c.in-Some.ensures.some c.entry_mut.result.now c.entry_mut.ensures.kept

pub leave-requires-clause-ordered : goal.leave-requires-clause-ordered
leave-requires-clause-ordered g c =
    end-ordered c.self.inside c.self.invariant c.args.o (rw (← c.self.view_is) at c.requires.live) c.look.result.now
    (look-there c.self.inside c.self.invariant c.args.o (rw (← c.self.view_is) at c.requires.live) c.look.result.now c.look.ensures.value) c.in-Some.link
    c.in-Some.ensures.some c.entry_mut.result.now c.entry_mut.ensures.kept c.drop_link-loose.new.self c.drop_link-loose.result c.drop_link-loose.ensures

pub leave-requires-clause-live : goal.leave-requires-clause-live
leave-requires-clause-live g c =
    end-leaves c.self.inside c.self.invariant c.args.o (rw (← c.self.view_is) at c.requires.live) c.look.result.now
    (look-there c.self.inside c.self.invariant c.args.o (rw (← c.self.view_is) at c.requires.live) c.look.result.now c.look.ensures.value) c.in-Some.link
    c.in-Some.ensures.some c.entry_mut.result.now c.entry_mut.ensures.kept c.drop_link-loose.new.self c.drop_link-loose.result c.drop_link-loose.ensures

pub invariant_of-self : goal.invariant_of-self
invariant_of-self g c =
    let-good c.self.inside c.self.invariant c.args.o (rw (← c.self.view_is) at c.requires.live) c.look.result.now
    (look-there c.self.inside c.self.invariant c.args.o (rw (← c.self.view_is) at c.requires.live) c.look.result.now c.look.ensures.value) c.in-Some.link
    c.in-Some.ensures.some c.entry_mut.result.now c.entry_mut.ensures.kept c.drop_link-loose.new.self c.drop_link-loose.result c.drop_link-loose.ensures
    c.leave.new.table c.leave.ensures.ordered c.leave.ensures.rows c.leave.ensures.born

pub returns-clause-dropped : goal.returns-clause-dropped
returns-clause-dropped g c is =
    rw (← c.self.view_is) (let-gone c.self.inside c.self.invariant c.args.o (rw (← c.self.view_is) at c.requires.live) c.look.result.now
    (look-there c.self.inside c.self.invariant c.args.o (rw (← c.self.view_is) at c.requires.live) c.look.result.now c.look.ensures.value) c.in-Some.link
    c.in-Some.ensures.some c.entry_mut.result.now c.entry_mut.ensures.kept c.drop_link-loose.new.self c.drop_link-loose.result c.drop_link-loose.ensures
    c.leave.new.table c.leave.ensures.ordered c.leave.ensures.rows c.leave.ensures.born)

pub returns-in_default-clause-none : goal.returns-in_default-clause-none
returns-in_default-clause-none g c is =
    rw (← c.self.view_is) (none-inside c.self.inside c.self.invariant c.args.o c.look.result.now
    (look-there c.self.inside c.self.invariant c.args.o (rw (← c.self.view_is) at c.requires.live) c.look.result.now c.look.ensures.value) c.in_default.ensures.first c.in_default.ensures.none)
