use Rattle.std.proofs.Common.{ap}
use Rattle.qo_heap.specs.WeakLinks.{Links}
use Rattle.qo_heap.specs.WeakLists.{with_first, with_links}
use Rattle.qo_heap.proofs.WeakTables.{entry-ordered, entry-rows}
use Rattle.qo_heap.proofs.weak_lists.set_first.Goals as goal

pub returns-clause-ordered : goal.returns-clause-ordered
returns-clause-ordered g c =
    entry-ordered c.args.table.now c.args.order.now.items c.requires.ordered c.args.target c.requires.live c.entry_mut.result.now
    (with_links c.set_first.new.self c.entry_mut.result.now)

pub returns-clause-rows : goal.returns-clause-rows
returns-clause-rows g c =
    entry-rows c.args.table.now c.args.order.now.items c.requires.ordered c.args.target c.requires.live c.entry_mut.result.now
    (with_links c.set_first.new.self c.entry_mut.result.now) (with_first c.args.first) c.entry_mut.ensures.kept
    (ap (λ (l : Links). with_links l c.entry_mut.result.now) c.set_first.ensures.now)
