use Rattle.std.proofs.Common.{◌≡◌, ◌<◌, length, arith}
use Rattle.qo_values.specs.declared.limits.TheConstants.{LIVE_OBJECTS_MAX}
use Rattle.qo_heap.proofs.InsideObjects.{IsTable, made-inside, objects_inside}
use Rattle.qo_heap.proofs.heap.Heap.make.Goals as goal

pub invariant_of-self : goal.invariant_of-self
invariant_of-self g c =
    let size : c.live.result ≡ length (objects_inside c.self.inside).rows = rw (← c.self.view_is) at c.live.ensures in
    let below : c.live.result < LIVE_OBJECTS_MAX = c.if-live-ge-LIVE_OBJECTS_MAX.false in
    let made : IsTable c.add_object.new.table c.add_object.new.order.items (objects_inside c.self.inside) =
    made-inside c.self.inside c.self.invariant c.args.kind (omega arith) c.add_object.result c.add_object.new.table c.add_object.new.order.items
    (rw c.new.ensures at c.add_object.ensures.added) (rw c.new.ensures at c.add_object.ensures.kept) (rw c.new.ensures at c.add_object.ensures.refused) in
    (made.0, (c.add_object.ensures.ordered, (made.1.0, (made.1.1, c.self.invariant.1.1.1.1))))
