-- The lines of what is in the slots before the place are there.
use Rattle.std.proofs.Common.{◌≡◌, take}
use Rattle.std.specs.Prelude.{filter_map}
use Rattle.qo_heap.specs.Board.{Shows}
use Rattle.qo_layout.specs.Numbering.{below_in}
use Rattle.qo_layout.specs.Registers.{registers_at}
use Rattle.qo_layout.specs.Rows.{AreLines, wiring}
use Rattle.qo_model.specs.Board.{Board, slots_at}
use Rattle.qo_sound_shapes.specs.SoundShape.{SoundShape}
use Rattle.qo_layout.proofs.rows.lines_below.Given as goal

abbrev pub invariant-loop-at : goal.invariant-loop-at
invariant-loop-at g l = (b : Board) → Shows b l.heap → SoundShape b → l.fn.driven ≡ wiring (registers_at b l.o.birth) → AreLines l.rows (filter_map (below_in b l.bus) (take l.at (slots_at b l.o.birth))) l.lines.items
