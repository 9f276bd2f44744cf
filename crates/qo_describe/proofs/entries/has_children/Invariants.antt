-- No child stands in the slots passed over.
use Rattle.std.proofs.Common.{◌≡◌, [], take}
use Rattle.std.specs.Prelude.{filter_map}
use Rattle.qo_heap.specs.Board.{Shows}
use Rattle.qo_model.specs.Board.{Board, slots_at}
use Rattle.qo_sound_devices.specs.SoundPlaces.{child_entry}
use Rattle.qo_describe.proofs.entries.has_children.Given as goal

abbrev pub invariant-loop-at : goal.invariant-loop-at
invariant-loop-at g l = (b : Board) → Shows b l.heap → filter_map child_entry (take l.at (slots_at b l.o.birth)) ≡ []
