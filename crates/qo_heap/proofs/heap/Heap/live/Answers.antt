use Rattle.qo_heap.proofs.InsideObjects.{entries}
use Rattle.qo_heap.proofs.KeepingLemmas.{length-plain}
use Rattle.qo_heap.proofs.RowsLemmas.{rows-length}
use Rattle.qo_heap.proofs.heap.Heap.live.Goals as goal

pub returns : goal.returns
returns c =
    rw (← c.self.view_is, length-plain (entries c.self.inside), rows-length c.self.inside.table c.self.inside.order.items c.self.invariant.1.0.stored) search
