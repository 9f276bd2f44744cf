-- The first ones are done.
use Rattle.std.proofs.Common.{map, take}
use Rattle.qo_model.specs.Board.{Board}
use Rattle.qo_realize.specs.Representation.{Stands}
use Rattle.qo_save.specs.Rebuilding.{set_link}
use Rattle.qo_shape.specs.Said.{link_said}
use Rattle.qo_rebuild.proofs.StepLemmas.{Went}
use Rattle.qo_rebuild.proofs.links.set_links.Given as goal

abbrev pub invariant-loop-link : goal.invariant-loop-link
invariant-loop-link g l = (b : Board) → Stands b l.initial.board → Went (map set_link (map link_said (take l.link-index l.links))) b l.board
