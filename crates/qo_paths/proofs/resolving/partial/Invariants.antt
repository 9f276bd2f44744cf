-- The end that was found, if one was, and the ends from the places that are left, are all ends.
use Rattle.std.proofs.Common.{◌≡◌, IfSome}
use Rattle.std.specs.List.{cons_option}
use Rattle.qo_model.specs.Board.{Board}
use Rattle.qo_model.specs.Paths.{ends}
use Rattle.qo_object.specs.BoardObject.{birth_of}
use Rattle.qo_heap.specs.Rows.{IsLive}
use Rattle.qo_heap.specs.Board.{Shows}
use Rattle.qo_paths.proofs.EndLemmas.{ends_after}
use Rattle.qo_paths.proofs.resolving.partial.Given as goal

abbrev pub invariant-loop-place : goal.invariant-loop-place
invariant-loop-place g l =
    ((b : Board) → Shows b l.heap → ends b l.fn.path l.fn.wanted ≡ cons_option (birth_of l.found) (ends_after b l.path l.wanted l.heap.rows l.place))
    × IfSome l.found (IsLive l.heap.rows)
