-- As many removals as were gone through have come to their end.
use Rattle.qo_model.specs.Board.{Board}
use Rattle.qo_model.specs.Hotplug.{all_completed}
use Rattle.qo_realize.specs.Representation.{Stands}
use Rattle.qo_realize.proofs.board.Board.complete_all.Given as goal

abbrev pub invariant-loop-turn : goal.invariant-loop-turn
invariant-loop-turn g l = (b : Board) → Stands b l.fn.self → Stands (all_completed l._turn b) l.self
