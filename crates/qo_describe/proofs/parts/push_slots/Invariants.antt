-- What is told of the objects in the first slots.
use Rattle.std.proofs.Common.{◌≡◌, ◌++◌, map, take}
use Rattle.std.specs.Prelude.{filter_map, flat_map}
use Rattle.serde_json.specs.View.{view}
use Rattle.qo_heap.specs.Board.{Shows}
use Rattle.qo_model.specs.Board.{Board, slots_at}
use Rattle.qo_sound_devices.specs.SoundPlaces.{child_entry}
use Rattle.qo_describe.specs.Told.{entry_told}
use Rattle.qo_describe.proofs.parts.push_slots.Given as goal

abbrev pub invariant-loop-at : goal.invariant-loop-at
invariant-loop-at g l =
    (b : Board) → Shows b l.heap
    → map view l.values.items ≡ map view l.fn.values.items ++ flat_map (entry_told l.part b) (filter_map child_entry (take l.at (slots_at b l.container.birth)))
