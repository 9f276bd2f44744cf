use Rattle.qo_heap.proofs.heap.Heap.reveal_once.Goals as goal

pub returns : goal.returns
returns c = rw (← c.self.view_is) c.self.invariant.1.1.0.once
