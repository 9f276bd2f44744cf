-- The objects before this one have their rows.
use Rattle.std.proofs.Common.{◌≡◌, ◌*◌, ◌≤◌, length, take}
use Rattle.qo_heap.specs.Board.{Shows}
use Rattle.qo_layout.specs.Numbering.{births_of}
use Rattle.qo_layout.specs.Rows.{AreRows, AreWired, objects_of}
use Rattle.qo_model.specs.Board.{Board}
use Rattle.qo_sound_shapes.specs.SoundShape.{SoundShape}
use Rattle.qo_layout.proofs.rows.add_objects.Given as goal

abbrev pub invariant-loop-o : goal.invariant-loop-o
invariant-loop-o g l =
    AreRows l.rows.items l.net × (objects_of l.rows.items ≡ births_of (take l.o-index l.objects))
    × ((b : Board) → Shows b l.heap → SoundShape b → AreWired b l.rows.items l.net) × (length l.net ≤ 3 * l.o-index)
