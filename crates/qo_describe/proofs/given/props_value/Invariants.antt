-- The properties of the first names.
use Rattle.std.proofs.Common.{◌≡◌, take}
use Rattle.serde_json.specs.View.{members_view}
use Rattle.qo_heap.specs.Board.{Shows}
use Rattle.qo_model.specs.Board.{Board}
use Rattle.qo_save.specs.Described.{props_under}
use Rattle.qo_save.specs.Description.{props_members}
use Rattle.qo_describe.specs.Given.{given_names, left_out}
use Rattle.qo_describe.proofs.given.props_value.Given as goal

abbrev pub invariant-loop-name : goal.invariant-loop-name
invariant-loop-name g l =
    (b : Board) → Shows b l.heap
    → members_view l.members.entries ≡ props_members (props_under b (left_out l.owner) (take l.name-index (given_names l.owner)) l.o.birth)
