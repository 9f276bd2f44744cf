use Rattle.std.proofs.Common.{refl}
use Rattle.qo_heap.proofs.RowsLemmas.{live-stored, object-found}
use Rattle.qo_heap.proofs.table.change.Goals as goal

pub change-requires : goal.change-requires
change-requires g c = live-stored c.args.table.now c.args.order.now.items c.requires.ordered.stored c.args.key c.requires.live

pub returns : goal.returns
returns g c =
    let stored = c.requires.ordered.stored in (
      (refl, λ w. refl),
      record {
        writes_back = tt;
        object = object-found c.args.table.now c.args.order.now.items stored c.args.key c.requires.live c.change.result.now c.change.ensures.value;
        cost = c.change.ensures.cost;
      },
    )
