-- When a board is sound: the groups of facts that hold between two inputs of the machine.
use Rattle.qo_model.specs.Board.{Board}
use Rattle.qo_model.specs.SoundAliases.{SoundAliases}
use Rattle.qo_model.specs.SoundEvents.{SoundEvents}
use Rattle.qo_model.specs.SoundGraph.{SoundGraph}

-- all groups
pub record IsSound (b : Board) : Type 0 where
  pub graph : SoundGraph b
  pub aliases : SoundAliases b
  pub events : SoundEvents b
