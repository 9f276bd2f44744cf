use Rattle.std.proofs.Common.{◌≡◌, take}
use Rattle.qo_heap.specs.Log.{noted_all}
use Rattle.qo_heap.proofs.EndLemmas.{finals_in}
use Rattle.qo_heap.proofs.heap.Heap.note_end.Given as goal

abbrev pub invariant-loop-place : goal.invariant-loop-place
invariant-loop-place l = l.self ≡ record l.initial.self { log = noted_all (finals_in l.birth (take l.place l.ancestry)) l.initial.self.log }
