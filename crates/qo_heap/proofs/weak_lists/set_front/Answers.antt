use Rattle.std.proofs.Common.{ap, None}
use Rattle.qo_heap.specs.WeakLinks.{Links, with_both}
use Rattle.qo_heap.specs.WeakLists.{with_links, with_node}
use Rattle.qo_heap.proofs.WeakTables.{entry-ordered, entry-rows}
use Rattle.qo_heap.proofs.weak_lists.set_front.Goals as goal

pub returns-clause-ordered : goal.returns-clause-ordered
returns-clause-ordered g c =
    entry-ordered c.args.table.now c.args.order.now.items c.requires.ordered c.args.link.owner c.requires.live c.entry_mut.result.now
    (with_links c.set_front.new.self c.entry_mut.result.now)

pub returns-clause-rows : goal.returns-clause-rows
returns-clause-rows g c =
    entry-rows c.args.table.now c.args.order.now.items c.requires.ordered c.args.link.owner c.requires.live c.entry_mut.result.now
    (with_links c.set_front.new.self c.entry_mut.result.now) (with_node c.args.link.id (with_both None c.args.next)) c.entry_mut.ensures.kept
    (ap (λ (l : Links). with_links l c.entry_mut.result.now) c.set_front.ensures)
