-- The lines of the children in the first slots, and of what is below them, are put.
use Rattle.std.proofs.Common.{◌≡◌, ◌+◌, ◌-◌, ◌*◌, ◌++◌, string_bytes, take}
use Rattle.std.specs.Prelude.{filter_map, flat_map}
use Rattle.qo_heap.specs.Board.{Shows}
use Rattle.qo_model.specs.Board.{Board, slots_at}
use Rattle.qo_text.specs.Trees.{child_entry}
use Rattle.qo_text.proofs.TreeTextLemmas.{child_text}
use Rattle.qo_text.proofs.trees.+below.Given as goal

abbrev pub decreases-put_below : goal.decreases-put_below
decreases-put_below g l = 2 * l.levels

abbrev pub decreases-put_child : goal.decreases-put_child
decreases-put_child g l = 2 * l.levels + 1

abbrev pub invariant-put_below-loop-at : goal.invariant-put_below-loop-at
invariant-put_below-loop-at g l =
    (b : Board) → Shows b l.heap
    → string_bytes l.text ≡ string_bytes l.fn.text ++ flat_map (child_text b (l.levels - 1) l.depth) (filter_map child_entry (take l.at (slots_at b l.o.birth)))
