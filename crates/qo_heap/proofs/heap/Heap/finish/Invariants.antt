use Rattle.qo_heap.specs.WeakEnds.{weak_ends}
use Rattle.qo_heap.proofs.EndedLinks.{Lets}
use Rattle.qo_heap.proofs.heap.Heap.finish.Given as goal

abbrev pub invariant-loop : goal.invariant-loop
invariant-loop g l = Lets l.o l.initial.self l.self l.initial.steps l.steps

abbrev pub decreases-loop : goal.decreases-loop
decreases-loop g l = weak_ends l.o.birth l.self.rows
