use Rattle.std.proofs.Common.{refl, option_to_list}
use Rattle.qo_object.specs.Content.{dropped_at}
use Rattle.qo_heap.proofs.HeldInside.{lost-held, lost-live}
use Rattle.qo_heap.proofs.HeapLemmas.{dropped-there}
use Rattle.qo_heap.proofs.HoldLemmas.{dropped-length, dropped-moves}
use Rattle.qo_heap.proofs.InsideObjects.{EditedInside, changed-inside, changes-lost, few-there, objects_inside, ordered-written}
use Rattle.qo_heap.proofs.WeakInside.{can-leave, changes-loosed, left-inside}
use Rattle.qo_heap.proofs.heap.Heap.empty.Goals as goal

pub end_hold-requires-clause-ordered : goal.end_hold-requires-clause-ordered
end_hold-requires-clause-ordered g c =
    ordered-written c.self.inside c.self.invariant c.args.o (rw (← c.self.view_is) at c.requires.live) (dropped_at c.args.at) c.entry_mut.result.now
    c.drop_at-dropped.new.self c.entry_mut.ensures.kept c.drop_at-dropped.ensures.now

pub end_hold-requires-clause-live : goal.end_hold-requires-clause-live
end_hold-requires-clause-live g c =
    lost-live c.self.inside c.self.invariant c.args.o (rw (← c.self.view_is) at c.requires.live) c.args.at c.entry_mut.result.now
    c.drop_at-dropped.new.self c.entry_mut.ensures.kept c.drop_at-dropped.ensures.now c.drop_at-dropped.result.hold c.drop_at-dropped.ensures.hold

pub end_hold-requires-clause-held : goal.end_hold-requires-clause-held
end_hold-requires-clause-held g c =
    lost-held c.self.inside c.self.invariant c.args.o (rw (← c.self.view_is) at c.requires.live) c.args.at c.entry_mut.result.now
    c.drop_at-dropped.new.self c.entry_mut.ensures.kept c.drop_at-dropped.ensures.now c.drop_at-dropped.result.hold c.drop_at-dropped.ensures.hold

pub leave-requires-clause-live : goal.leave-requires-clause-live
leave-requires-clause-live g c =
    can-leave c.self.inside c.self.invariant c.args.o (rw (← c.self.view_is) at c.requires.live) c.args.at c.entry_mut.result.now c.drop_at-dropped.new.self
    c.entry_mut.ensures.kept c.drop_at-dropped.ensures.now c.drop_at-dropped.result.hold c.drop_at-dropped.ensures.hold c.end_hold.new.table
    c.end_hold.ensures.rows c.drop_at-dropped.result.loose c.drop_at-dropped.ensures.loose

edited : (g : _) (c : goal.After-leave g) → EditedInside c.self.inside c.args.o (dropped_at c.args.at) c.leave.new.table
edited g c =
    let h = c.self.inside in
    let f = dropped_at c.args.at in
    let e = c.entry_mut.result.now in
    let w = c.drop_at-dropped.new.self in
    let live = rw (← c.self.view_is) at c.requires.live in
    let few = few-there h c.self.invariant c.args.o live f e w c.entry_mut.ensures.kept c.drop_at-dropped.ensures.now (dropped-length c.args.at e.object.slots) in
    changed-inside h c.self.invariant c.args.o live f c.leave.new.table
    (changes-loosed h c.args.o f c.end_hold.new.table c.leave.new.table
    (changes-lost h c.self.invariant c.args.o live f e w c.entry_mut.ensures.kept c.drop_at-dropped.ensures.now (option_to_list c.drop_at-dropped.result.hold)
    (rw c.drop_at-dropped.ensures.hold (dropped-moves e.object c.args.at)) few c.end_hold.new.table c.end_hold.ensures.ordered c.end_hold.ensures.rows
    c.end_hold.ensures.born)
    c.drop_at-dropped.result.loose c.leave.ensures.ordered c.leave.ensures.rows c.leave.ensures.born)
    (left-inside h c.self.invariant c.args.o live c.args.at e w c.entry_mut.ensures.kept c.drop_at-dropped.ensures.now c.drop_at-dropped.result.hold
    c.drop_at-dropped.ensures.hold c.end_hold.new.table c.end_hold.ensures.rows c.drop_at-dropped.result.loose c.drop_at-dropped.ensures.loose c.leave.new.table
    c.leave.ensures.rows)
    (λ x. dropped-there (objects_inside h) c.args.at x) (λ x. refl)

pub invariant_of-self : goal.invariant_of-self
invariant_of-self g c = (edited g c).good

pub returns-clause-now : goal.returns-clause-now
returns-clause-now g c = rw (← c.self.view_is) (edited g c).now
