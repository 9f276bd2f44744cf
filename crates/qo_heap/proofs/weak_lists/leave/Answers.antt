use Rattle.std.proofs.Common.{ap, ◌∙◌}
use Rattle.qo_heap.specs.Keeping.{plain}
use Rattle.qo_heap.specs.Order.{rows_in}
use Rattle.qo_heap.proofs.WeakTables.{live-same, owner-same, plain-turned}
use Rattle.qo_heap.proofs.weak_lists.leave.Goals as goal

pub set_next-requires-clause-live : goal.set_next-requires-clause-live
set_next-requires-clause-live g c =
    live-same (rows_in c.args.table.now c.args.order.now.items) (rows_in c.set_prev.new.table c.args.order.now.items) (ap plain c.set_prev.ensures.rows ∙ plain-turned c.in-Some.loose.node.next c.in-Some.loose.node.prev (rows_in c.args.table.now c.args.order.now.items)) c.in-Some.loose.target
    (rw c.in-Some.is at c.requires.live).0

pub set_next-requires-clause-owner : goal.set_next-requires-clause-owner
set_next-requires-clause-owner g c =
    owner-same (rows_in c.args.table.now c.args.order.now.items) (rows_in c.set_prev.new.table c.args.order.now.items) (ap plain c.set_prev.ensures.rows ∙ plain-turned c.in-Some.loose.node.next c.in-Some.loose.node.prev (rows_in c.args.table.now c.args.order.now.items)) c.in-Some.loose.node.prev
    (rw c.in-Some.is at c.requires.live).1.1
