-- What was listed, and what the places that are left tell, is all.
use Rattle.std.proofs.Common.{◌≡◌, ◌++◌}
use Rattle.qo_model.specs.Board.{Board as Tree}
use Rattle.qo_heap.specs.Board.{Shows}
use Rattle.qo_model.specs.Detachment.{detached_listed}
use Rattle.qo_properties.proofs.ReadLemmas.{detached_after}
use Rattle.qo_properties.proofs.reading.detached.detached_list.Given as goal

abbrev pub invariant-loop-place : goal.invariant-loop-place
invariant-loop-place g l = (b : Tree) → Shows b l.heap → detached_listed b ≡ l.list.items ++ detached_after b l.heap.rows l.place
