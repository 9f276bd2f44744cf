-- Runs of a board on which clocks are written and time goes on, beside all that comes and goes.
use Rattle.std.specs.Prelude.{ℕ, ◌+◌, ◌^◌, ◌&&◌, nat_lt, if◌then◌else◌, List, [], ◌∷◌}
use Rattle.qo_model.specs.Board.{Board}
use Rattle.qo_model.specs.ClockChanges.{clock_scaled, clock_set}
use Rattle.qo_model.specs.FinalNotesRuns.{after_write}
use Rattle.qo_model.specs.Opening.{opening_board}
use Rattle.qo_sound_devices.specs.DeviceRuns.{DeviceStep, stepped}
use Rattle.qo_sound_devices.specs.SoundDevices.{SoundDevices}
use Rattle.qo_sound_clocks.specs.SoundClocks.{SoundClocks}
use Rattle.qo_sound_clocks.specs.SoundNumbers.{SoundNumbers}
use Rattle.qo_sound_clocks.specs.SoundTimes.{SoundTimes}

-- a step: one as devices have it; a clock is given a period, or by what it multiplies and divides; some ns pass
pub data ClockStep : Type 0 where
  goes : DeviceStep → ClockStep
  sets : ℕ → ℕ → ClockStep
  scales : ℕ → ℕ → ℕ → ClockStep
  passes : ℕ → ClockStep

-- the board after a step; a write that is refused leaves it, and so does one of a number wider than its property
abbrev pub clock_stepped : Board → ClockStep → Board
clock_stepped b (goes step) = stepped b step
clock_stepped b (sets c period) = if nat_lt period (2 ^ 64) then after_write b (clock_set b c period) else b
clock_stepped b (scales c mul div) = if nat_lt mul (2 ^ 32) && nat_lt div (2 ^ 32) then after_write b (clock_scaled b c mul div) else b
clock_stepped b (passes span) = record b { now = b.now + span }

-- and after some, in order
abbrev pub after_clock_steps : Board → List ClockStep → Board
after_clock_steps b [] = b
after_clock_steps b (step ∷ steps) = after_clock_steps (clock_stepped b step) steps

-- a board that is sound as far as devices, clocks and moments go
pub record SoundRun (b : Board) : Type 0 where
  pub devices : SoundDevices b
  pub clocks : SoundClocks b
  pub numbers : SoundNumbers b
  pub times : SoundTimes b

-- so is the opening board, and each step keeps it so
pub record ClockRunsLaw : Type 0 where
  pub step : (b : Board) (step : ClockStep) → SoundRun b → SoundRun (clock_stepped b step)
  pub run : (steps : List ClockStep) → SoundRun (after_clock_steps opening_board steps)
