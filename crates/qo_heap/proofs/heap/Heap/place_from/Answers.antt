use Rattle.std.proofs.Common.{◌∙◌, ap, sym, leb, nat_lt}
use Rattle.qo_slots.specs.declared.keys.Key.{Key}
use Rattle.qo_object.specs.Content.{Content}
use Rattle.qo_heap.specs.Order.{front}
use Rattle.qo_heap.proofs.InsideObjects.{entries, objects_inside}
use Rattle.qo_heap.proofs.KeepingLemmas.{keys-plain}
use Rattle.qo_heap.proofs.RowsLemmas.{front-rows, not-below, rows-keys}
use Rattle.qo_heap.proofs.heap.Heap.place_from.Goals as goal

pub place_of-requires : goal.place_of-requires
place_of-requires c = (c.self.inside.table.born, rw c.as_slice.ensures.value c.self.invariant.1.0.rising)

pub returns : goal.returns
returns c =
    rw (← c.self.view_is)
    (c.place_of.ensures
    ∙ ap (front (λ (k : Key). nat_lt k.birth c.args.birth))
    (c.as_slice.ensures.value
    ∙ sym (keys-plain (entries c.self.inside) ∙ rows-keys c.self.inside.table c.self.inside.order.items c.self.invariant.1.0.stored))
    ∙ front-rows Content (λ (k : Key). nat_lt k.birth c.args.birth) (λ (k : Key). leb c.args.birth k.birth) (λ k. not-below c.args.birth k.birth)
    (objects_inside c.self.inside).rows)
