use Rattle.qo_heap.proofs.RowsLemmas.{added}
use Rattle.qo_heap.proofs.table.add.Goals as goal

pub returns-clause-ordered : goal.returns-clause-ordered
returns-clause-ordered g c =
    (added c.args.table.now c.reserve.new.self c.put-key.new.self c.put-key.result c.args.object c.args.order.now.items c.push_reserved.new.self.items
    c.requires c.reserve.ensures.kept c.put-key.ensures.birth c.put-key.ensures.vacant c.put-key.ensures.updates c.put-key.ensures.born
    (rw c.reserve-2.ensures.items at c.push_reserved.ensures.items) c.put-key.ensures.count).good

pub returns-clause-added : goal.returns-clause-added
returns-clause-added g c =
    let done = added c.args.table.now c.reserve.new.self c.put-key.new.self c.put-key.result c.args.object c.args.order.now.items
    c.push_reserved.new.self.items c.requires c.reserve.ensures.kept c.put-key.ensures.birth c.put-key.ensures.vacant c.put-key.ensures.updates
    c.put-key.ensures.born (rw c.reserve-2.ensures.items at c.push_reserved.ensures.items) c.put-key.ensures.count in
    (done.birth, (done.rows, done.born))
