-- The spans passed over stand in the list.
use Rattle.std.proofs.Common.{◌≡◌, map, take}
use Rattle.serde_json.specs.View.{view}
use Rattle.qo_model.specs.Board.{Board}
use Rattle.qo_realize.specs.Representation.{Stands}
use Rattle.qo_commands.specs.Commands.{shown_data}
use Rattle.qo_commands.proofs.memmap.span_list.Given as goal

abbrev pub invariant-loop-span : goal.invariant-loop-span
invariant-loop-span g l = (b : Board) → Stands b l.board → map view l.values.items ≡ map (shown_data b) (take l.span-index l.spans)
