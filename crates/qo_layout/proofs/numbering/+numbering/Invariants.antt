-- What is in the slots before the place is listed.
use Rattle.std.proofs.Common.{◌≡◌, ◌+◌, ◌-◌, ◌*◌, ◌++◌, All, take}
use Rattle.std.specs.Prelude.{filter_map}
use Rattle.std.specs.List.{flat_map}
use Rattle.qo_heap.specs.Rows.{IsLive}
use Rattle.qo_model.specs.Board.{Board, slots_at}
use Rattle.qo_heap.specs.Board.{Shows}
use Rattle.qo_sound_shapes.specs.SoundShape.{SoundShape}
use Rattle.qo_layout.specs.Numbering.{below_in, births_of, post_within}
use Rattle.qo_layout.proofs.numbering.+numbering.Given as goal

abbrev pub decreases-list_below : goal.decreases-list_below
decreases-list_below g l = 2 * l.levels

abbrev pub decreases-list_in_slot : goal.decreases-list_in_slot
decreases-list_in_slot g l = 2 * l.levels + 1

abbrev pub invariant-list_below-loop-at : goal.invariant-list_below-loop-at
invariant-list_below-loop-at g l =
    All (IsLive l.heap.rows) l.objects.items
    × ((b : Board) → Shows b l.heap → SoundShape b
    → births_of l.objects.items
    ≡ births_of l.fn.objects.items ++ flat_map (post_within b (l.levels - 1)) (filter_map (below_in b l.bus) (take l.at (slots_at b l.o.birth))))
