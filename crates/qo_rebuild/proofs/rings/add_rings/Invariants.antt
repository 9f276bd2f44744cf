-- The first ones are done.
use Rattle.std.proofs.Common.{map, take}
use Rattle.qo_model.specs.Board.{Board}
use Rattle.qo_realize.specs.Representation.{Stands}
use Rattle.qo_save.specs.Rebuilding.{add_ring}
use Rattle.qo_shape.specs.Said.{ring_said}
use Rattle.qo_rebuild.proofs.StepLemmas.{Went}
use Rattle.qo_rebuild.proofs.rings.add_rings.Given as goal

abbrev pub invariant-loop-ring : goal.invariant-loop-ring
invariant-loop-ring l = (b : Board) → Stands b l.initial.board → Went (map add_ring (map ring_said (take l.ring-index l.rings))) b l.board
