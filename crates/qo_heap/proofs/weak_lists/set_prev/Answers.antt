use Rattle.std.proofs.Common.{ap}
use Rattle.qo_heap.specs.WeakLinks.{Links, with_prev}
use Rattle.qo_heap.specs.WeakLists.{with_links, with_node}
use Rattle.qo_heap.proofs.WeakTables.{entry-ordered, entry-rows}
use Rattle.qo_heap.proofs.weak_lists.set_prev.Goals as goal

pub returns-in-Some-clause-ordered : goal.returns-in-Some-clause-ordered
returns-in-Some-clause-ordered g c =
    entry-ordered c.args.table.now c.args.order.now.items c.requires.ordered c.in-Some.link.owner (rw c.in-Some.is at c.requires.live) c.entry_mut.result.now
    (with_links c.set_prev.new.self c.entry_mut.result.now)

pub returns-in-Some-clause-rows : goal.returns-in-Some-clause-rows
returns-in-Some-clause-rows g c =
    rw c.in-Some.is (entry-rows c.args.table.now c.args.order.now.items c.requires.ordered c.in-Some.link.owner (rw c.in-Some.is at c.requires.live) c.entry_mut.result.now
    (with_links c.set_prev.new.self c.entry_mut.result.now) (with_node c.in-Some.link.id (with_prev c.args.prev)) c.entry_mut.ensures.kept
    (ap (λ (l : Links). with_links l c.entry_mut.result.now) c.set_prev.ensures))
