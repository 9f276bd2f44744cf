-- The first ones are done.
use Rattle.std.proofs.Common.{map, take}
use Rattle.std.specs.List.{flat_map}
use Rattle.qo_model.specs.Board.{Board}
use Rattle.qo_realize.specs.Representation.{Stands}
use Rattle.qo_save.specs.Rebuilding.{factor_steps}
use Rattle.qo_shape.specs.Said.{clock_said}
use Rattle.qo_rebuild.proofs.StepLemmas.{Went}
use Rattle.qo_rebuild.proofs.clocks.scale_clocks.Given as goal

abbrev pub invariant-loop-clock : goal.invariant-loop-clock
invariant-loop-clock g l = (b : Board) → Stands b l.initial.board → Went (flat_map factor_steps (map clock_said (take l.clock-index l.clocks))) b l.board
