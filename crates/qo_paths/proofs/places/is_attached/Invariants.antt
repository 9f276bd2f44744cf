-- Whether the way leads to birth 1 is whether what is left of it does.
use Rattle.std.proofs.Common.{◌≡◌, length}
use Rattle.qo_model.specs.Board.{Board}
use Rattle.qo_model.specs.Paths.{attached}
use Rattle.qo_heap.specs.Board.{Shows}
use Rattle.qo_paths.proofs.PlaceLemmas.{attached_from}
use Rattle.qo_paths.proofs.places.is_attached.Given as goal

abbrev pub invariant-loop-turn : goal.invariant-loop-turn
invariant-loop-turn g l = (b : Board) → Shows b l.heap → attached_from b (length l.heap.rows) l._turn l.at.birth ≡ attached b l.fn.o.birth
