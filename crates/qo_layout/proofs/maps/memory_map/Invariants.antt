-- The regions of the objects before this one are added.
use Rattle.std.proofs.Common.{◌≡◌, map, take}
use Rattle.qo_model.specs.Board.{Board}
use Rattle.qo_heap.specs.Board.{Shows}
use Rattle.qo_sound_shapes.specs.SoundShape.{SoundShape}
use Rattle.qo_layout.specs.Layout.{region_of}
use Rattle.qo_layout.specs.Numbering.{births_of}
use Rattle.qo_layout.proofs.maps.memory_map.Given as goal

abbrev pub invariant-loop-o : goal.invariant-loop-o
invariant-loop-o g l =
    (b : Board) → Shows b l.heap → SoundShape b → l.map ≡ map (region_of b) (births_of (take l.o-index l.o-items))
