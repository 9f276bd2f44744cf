use Rattle.std.proofs.Common.{◌∙◌, ap, List}
use Rattle.std.specs.List.{slice_get}
use Rattle.qo_slots.specs.declared.keys.Key.{Key}
use Rattle.qo_heap.proofs.InsideObjects.{entries}
use Rattle.qo_heap.proofs.KeepingLemmas.{key-plain}
use Rattle.qo_heap.proofs.RowsLemmas.{rows-key_at}
use Rattle.qo_heap.proofs.heap.Heap.oid_at.Goals as goal

pub returns : goal.returns
returns c =
    rw (← c.self.view_is, key-plain (entries c.self.inside) c.args.place, rows-key_at c.self.inside.table c.self.inside.order.items c.self.invariant.1.0.stored c.args.place)
    (c.key_in.ensures ∙ ap (λ (l : List Key). slice_get l c.args.place) c.as_slice.ensures.value)
