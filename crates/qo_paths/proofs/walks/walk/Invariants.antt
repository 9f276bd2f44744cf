-- Where the parts that are left lead from the object is where the path leads, and a step was taken for each that was passed, at most.
use Rattle.std.proofs.Common.{◌≡◌, ◌+◌, ◌≤◌, length}
use Rattle.std.specs.Option.{option_copied}
use Rattle.qo_model.specs.Board.{Board}
use Rattle.qo_model.specs.Paths.{components, walk}
use Rattle.qo_heap.specs.Rows.{IsLive}
use Rattle.qo_heap.specs.Board.{Shows}
use Rattle.qo_paths.specs.Parts.{named_after}
use Rattle.qo_paths.proofs.PartLemmas.{size_of}
use Rattle.qo_paths.proofs.walks.walk.Given as goal

abbrev pub invariant-loop-left : goal.invariant-loop-left
invariant-loop-left g l =
    ((b : Board) → Shows b l.heap → walk b l.at.birth (named_after (option_copied l.left)) ≡ walk b l.fn.from.birth (components l.fn.path))
    × (IsLive l.heap.rows l.at × (l.steps + length (named_after (option_copied l.left)) ≤ l.fn.steps + length (components l.fn.path)))

abbrev pub decreases-loop-left : goal.decreases-loop-left
decreases-loop-left g l = size_of (option_copied l.left)
