use Rattle.std.proofs.Common.{◌∙◌, refl}
use Rattle.qo_heap.specs.Keeping.{less_held}
use Rattle.qo_heap.specs.Order.{rows_in}
use Rattle.qo_heap.proofs.KeepingLemmas.{live-entry}
use Rattle.qo_heap.proofs.RowsLemmas.{edit-as, rows-rise}
use Rattle.qo_heap.proofs.ValueLemmas.{written}
use Rattle.qo_heap.proofs.entries.end_hold.Goals as goal

pub lose-requires : goal.lose-requires
lose-requires g c =
    rw (c.in-Some.is, c.entry_mut.ensures.kept) at c.requires.held

pub returns-in-Some-clause-ordered : goal.returns-in-Some-clause-ordered
returns-in-Some-clause-ordered g c =
    let t = c.args.table.now in
    let order = c.args.order.now.items in
    let key = c.in-Some.hold.key in
    let live = live-entry (rows_in t order) key (rw c.in-Some.is at c.requires.live) in
    (written t order c.requires.ordered key live c.lose.new.self).ordered

pub returns-in-Some-clause-rows : goal.returns-in-Some-clause-rows
returns-in-Some-clause-rows g c =
    let t = c.args.table.now in
    let order = c.args.order.now.items in
    let key = c.in-Some.hold.key in
    let live = live-entry (rows_in t order) key (rw c.in-Some.is at c.requires.live) in
    rw c.in-Some.is ((written t order c.requires.ordered key live c.lose.new.self).rows
    ∙ edit-as key.birth (less_held c.in-Some.hold.child) c.entry_mut.result.now c.lose.new.self 0 t.born (rows_in t order) (rows-rise t order c.requires.ordered)
    c.entry_mut.ensures.kept c.lose.ensures)

pub returns-in_default-clause-rows : goal.returns-in_default-clause-rows
returns-in_default-clause-rows g c = rw c.in_default.is refl
