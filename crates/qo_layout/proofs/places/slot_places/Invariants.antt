-- What stands in the slots before this one is listed.
use Rattle.std.proofs.Common.{◌≡◌}
use Rattle.std.specs.List.{flat_map, range_with_len}
use Rattle.qo_model.specs.Board.{Board}
use Rattle.qo_heap.specs.Board.{Shows}
use Rattle.qo_layout.specs.Layout.{mapped, slot_places}
use Rattle.qo_layout.specs.Numbering.{births_of}
use Rattle.qo_layout.proofs.places.slot_places.Given as goal

abbrev pub invariant-loop-slot : goal.invariant-loop-slot
invariant-loop-slot g l =
    (b : Board) → Shows b l.heap → births_of l.objects ≡ mapped b → l.places.items ≡ flat_map (slot_places b l.bus.birth l.size) (range_with_len 0 l.slot)
