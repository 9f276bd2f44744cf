-- When the events of a board are sound.
use Rattle.std.specs.Prelude.{◌≡◌, []}
use Rattle.qo_model.specs.Board.{Board}

-- no event waits: each was sent with the change that it came from
pub record SoundEvents (b : Board) : Type 0 where
  pub none : b.events ≡ []
