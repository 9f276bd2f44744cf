-- When the clocks of a board are sound (docs/devel/clocks.rst, "The clock state", "Connecting two clocks together" and "Clock multiplier and divider
-- settings").
use Rattle.std.specs.Prelude.{◌≡◌, ℕ, ◌<◌, Some}
use Rattle.qo_model.specs.Board.{Board}
use Rattle.qo_model.specs.Clocks.{ClocksFit, own_period, source_of}

-- what a clock goes by was there before it, and such a clock has no period of its own; each child period fits in 64 bits, and no div is 0
pub record SoundClocks (b : Board) : Type 0 where
  pub older : (c s : ℕ) → source_of b c ≡ Some s → s < c
  pub none_own : (c s : ℕ) → source_of b c ≡ Some s → own_period b c ≡ 0
  pub fit : ClocksFit b
