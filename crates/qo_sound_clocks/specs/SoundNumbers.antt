-- When the numbers of a board's clocks are sound: each is as wide as its property (docs/devel/clocks.rst, "The clock state" and "Clock multiplier and divider
-- settings").
use Rattle.std.specs.Prelude.{ℕ, ◌<◌, ◌^◌}
use Rattle.qo_model.specs.Board.{Board}
use Rattle.qo_model.specs.Clocks.{div_of, mul_of, own_period}

-- a period of 64 bits, and mul and div of 32
pub record NumbersFit (b : Board) (c : ℕ) : Type 0 where
  pub period : own_period b c < 2 ^ 64
  pub mul : mul_of b c < 2 ^ 32
  pub div : div_of b c < 2 ^ 32

-- those of every clock
abbrev pub SoundNumbers : Board → Type 0
SoundNumbers b = (c : ℕ) → NumbersFit b c
