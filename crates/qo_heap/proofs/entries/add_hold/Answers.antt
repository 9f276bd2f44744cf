use Rattle.std.proofs.Common.{◌∙◌, refl, ◌<◌, ◌^◌}
use Rattle.qo_heap.specs.Keeping.{more_held}
use Rattle.qo_heap.specs.Order.{rows_in}
use Rattle.qo_heap.specs.declared.entries.Entry.{Entry}
use Rattle.qo_heap.proofs.KeepingLemmas.{all-object, live-entry}
use Rattle.qo_heap.proofs.RowsLemmas.{edit-as, rows-rise}
use Rattle.qo_heap.proofs.ValueLemmas.{written}
use Rattle.qo_heap.proofs.entries.add_hold.Goals as goal

pub gain-requires : goal.gain-requires
gain-requires g c =
    all-object (λ n (x : Entry). x.held < 2 ^ 63) (rows_in c.args.table.now c.args.order.now.items) c.requires.room c.in-Some.hold.key.birth
    c.entry_mut.result.now c.entry_mut.ensures.kept

pub returns-in-Some-clause-ordered : goal.returns-in-Some-clause-ordered
returns-in-Some-clause-ordered g c =
    let t = c.args.table.now in
    let order = c.args.order.now.items in
    let key = c.in-Some.hold.key in
    let live = live-entry (rows_in t order) key (rw c.in-Some.is at c.requires.live) in
    (written t order c.requires.ordered key live c.gain.new.self).ordered

pub returns-in-Some-clause-rows : goal.returns-in-Some-clause-rows
returns-in-Some-clause-rows g c =
    let t = c.args.table.now in
    let order = c.args.order.now.items in
    let key = c.in-Some.hold.key in
    let live = live-entry (rows_in t order) key (rw c.in-Some.is at c.requires.live) in
    rw c.in-Some.is ((written t order c.requires.ordered key live c.gain.new.self).rows
    ∙ edit-as key.birth (more_held c.in-Some.hold.child c.args.owner) c.entry_mut.result.now c.gain.new.self 0 t.born (rows_in t order) (rows-rise t order c.requires.ordered)
    c.entry_mut.ensures.kept c.gain.ensures)

pub returns-in_default-clause-rows : goal.returns-in_default-clause-rows
returns-in_default-clause-rows g c = rw c.in_default.is refl
