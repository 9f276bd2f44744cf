use Rattle.std.proofs.Common.{◌∙◌, ap}
use Rattle.qo_heap.specs.Keeping.{plain}
use Rattle.qo_heap.specs.Order.{rows_in}
use Rattle.qo_heap.proofs.KeepingLemmas.{live-entry, plain-there, plain-without}
use Rattle.qo_heap.proofs.entries.take_object.Goals as goal

pub take-requires-clause-live : goal.take-requires-clause-live
take-requires-clause-live g c = live-entry (rows_in c.args.table.now c.args.order.now.items) c.args.key c.requires.live

pub returns-clause-object : goal.returns-clause-object
returns-clause-object g c =
    rw c.into_object.ensures (plain-there (rows_in c.args.table.now c.args.order.now.items) c.args.key.birth c.take.result c.take.ensures.object)

pub returns-clause-rest : goal.returns-clause-rest
returns-clause-rest g c =
    ap plain c.take.ensures.rest ∙ plain-without c.args.key.birth (rows_in c.args.table.now c.args.order.now.items)
