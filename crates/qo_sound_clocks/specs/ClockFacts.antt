-- For a law alone. What the soundness of clocks says of them.
use Rattle.std.specs.Prelude.{◌≡◌, ℕ, ◌<◌, ◌^◌, List, Some}
use Rattle.std.specs.Option.{option_to_list}
use Rattle.qo_model.specs.Board.{Board}
use Rattle.qo_model.specs.Clocks.{ClocksFit, period, source_of}
use Rattle.qo_model.specs.Depth.{Leads}
use Rattle.qo_sound_clocks.specs.SoundClocks.{SoundClocks}

-- what a clock goes by, if it goes by another
abbrev pub sources : Board → ℕ → List ℕ
sources b c = option_to_list (source_of b c)

-- on a board that is sound so
pub record ClocksSayLaw : Type 0 where
  -- no clock goes by itself, in however many steps
  pub none_round : (b : Board) → SoundClocks b → (c : ℕ) → ¬ (Leads (sources b) c c)
  -- the periods of those that go by a clock fit in 64 bits
  pub fit : (b : Board) → SoundClocks b → ClocksFit b
  pub fed : (b : Board) → SoundClocks b → (c s : ℕ) → source_of b c ≡ Some s → period b c < 2 ^ 64
