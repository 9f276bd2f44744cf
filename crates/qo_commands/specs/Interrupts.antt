-- The interrupt lines that stand beside a board are its own (hw/core/irq.c).
use Rattle.qo_layout.specs.Rows.{LinesAre, Wired}
use Rattle.qo_model.specs.Board.{Board}
use Rattle.qo_realize.specs.Parts.{Parts}
use Rattle.qo_realize.specs.Representation.{Stands}
use Rattle.qo_realize.specs.SoundBoard.{SoundBoard}

-- a sound board stands at these parts, and they are its lines
pub record LinesOf (p : Parts) (l : Wired) : Type 0 where
  pub board : Board
  pub stands : Stands board p
  pub sound : SoundBoard board
  pub lines : LinesAre board l

unfoldable pub HasLines : Parts → Wired → Type 0
HasLines p l = LinesOf p l
