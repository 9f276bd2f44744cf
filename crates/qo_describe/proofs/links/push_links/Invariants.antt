-- The links in the first slots.
use Rattle.std.proofs.Common.{◌≡◌, ◌++◌, map, take}
use Rattle.std.specs.Prelude.{filter_map, flat_map}
use Rattle.serde_json.specs.View.{view}
use Rattle.qo_heap.specs.Board.{Shows}
use Rattle.qo_model.specs.Board.{Board, slots_at}
use Rattle.qo_save.specs.Described.{link_item}
use Rattle.qo_describe.specs.Told.{link_told}
use Rattle.qo_describe.proofs.links.push_links.Given as goal

abbrev pub invariant-loop-at : goal.invariant-loop-at
invariant-loop-at g l =
    (b : Board) → Shows b l.heap
    → map view l.values.items ≡ map view l.fn.values.items ++ flat_map link_told (filter_map (link_item b l.o.birth) (take l.at (slots_at b l.o.birth)))
