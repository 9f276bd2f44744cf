use Rattle.std.proofs.Common.{◌∙◌, ap, ap₂, List, ℕ, leb, nat_lt}
use Rattle.std.specs.List.{slice_get}
use Rattle.qo_slots.specs.declared.keys.Key.{Key}
use Rattle.qo_heap.specs.Order.{front}
use Rattle.qo_heap.proofs.InsideObjects.{entries}
use Rattle.qo_heap.proofs.KeepingLemmas.{find-plain}
use Rattle.qo_heap.proofs.RowsLemmas.{rows-find, at-end-of-front, not-below}
use Rattle.qo_heap.proofs.heap.Heap.from_birth.Goals as goal

pub place_of-place-requires : goal.place_of-place-requires
place_of-place-requires c = (c.self.inside.table.born, rw c.as_slice.ensures.value c.self.invariant.1.0.rising)

pub returns : goal.returns
returns c =
    rw (← c.self.view_is, find-plain (λ (k : Key). leb c.args.birth k.birth) (entries c.self.inside), rows-find c.self.inside.table c.self.inside.order.items c.self.invariant.1.0.stored (λ (k : Key). leb c.args.birth k.birth))
    (c.key_in.ensures
    ∙ ap₂ (λ (l : List Key) (n : ℕ). slice_get l n) c.as_slice-2.ensures.value
    (c.place_of-place.ensures ∙ ap (λ (l : List Key). front (λ (k : Key). nat_lt k.birth c.args.birth) l) c.as_slice.ensures.value)
    ∙ at-end-of-front (λ (k : Key). nat_lt k.birth c.args.birth) (λ (k : Key). leb c.args.birth k.birth) (λ k. not-below c.args.birth k.birth)
    c.self.inside.order.items)
