-- The first ones are done.
use Rattle.std.proofs.Common.{map, take}
use Rattle.qo_model.specs.Board.{Board}
use Rattle.qo_realize.specs.Representation.{Stands}
use Rattle.qo_save.specs.Rebuilding.{add_object}
use Rattle.qo_shape.specs.Said.{object_said}
use Rattle.qo_rebuild.proofs.StepLemmas.{Went}
use Rattle.qo_rebuild.proofs.objects.add_objects.Given as goal

abbrev pub invariant-loop-object : goal.invariant-loop-object
invariant-loop-object g l = (b : Board) → Stands b l.initial.board → Went (map add_object (map object_said (take l.object-index l.objects))) b l.board
