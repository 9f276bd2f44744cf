-- The steps that are left of the way, before those that were taken, are all its steps.
use Rattle.std.proofs.Common.{◌≡◌, length, map}
use Rattle.qo_model.specs.Board.{Board}
use Rattle.qo_model.specs.Paths.{path_down_to}
use Rattle.qo_heap.specs.Board.{Shows}
use Rattle.qo_paths.proofs.PlaceLemmas.{steps_with}
use Rattle.qo_paths.proofs.writing.names_up.Given as goal

abbrev pub invariant-loop-turn : goal.invariant-loop-turn
invariant-loop-turn g l =
    (b : Board) → Shows b l.heap → steps_with b (length l.heap.rows) l._turn l.at.birth (map (λ n. n.now) l.names.items) ≡ path_down_to b l.fn.o.birth
