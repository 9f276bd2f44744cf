use Rattle.std.proofs.Common.{refl}
use Rattle.qo_heap.specs.Order.{rows_in}
use Rattle.qo_heap.proofs.KeepingLemmas.{live-entry, plain-there}
use Rattle.qo_heap.proofs.entries.entry_mut.Goals as goal

pub change-requires-clause-live : goal.change-requires-clause-live
change-requires-clause-live g c = live-entry (rows_in c.args.table.now c.args.order.now.items) c.args.key c.requires.live

pub returns : goal.returns
returns g c = (
  (refl, λ w. refl),
  record {
    writes_back = tt;
    kept = c.change.ensures.object;
    object = plain-there (rows_in c.args.table.now c.args.order.now.items) c.args.key.birth c.change.result.now c.change.ensures.object;
    cost = c.change.ensures.cost;
  },
)
