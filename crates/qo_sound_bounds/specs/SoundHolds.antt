-- When the holds of a board are sound: where they are, and that no object has too many on it and above it (docs/devel/reset.rst, "Triggering reset"; how many
-- is the profile's).
use Rattle.std.specs.Prelude.{ℕ, ◌+◌, ◌≤◌}
use Rattle.std.specs.List.{AllByRecursion}
use Rattle.qo_values.specs.declared.limits.TheConstants.{HOLD_COUNT_MAX}
use Rattle.qo_model.specs.Board.{Board}
use Rattle.qo_model.specs.Reset.{count}
use Rattle.qo_sound_phases.specs.SoundPhases.{IsReached}

-- the holds are sound
pub record SoundHolds (b : Board) : Type 0 where
  -- each is on what a reset reaches
  pub on : AllByRecursion (IsReached b) b.holds
  -- no object has more holds on it and above it than one more than may be there before a hold
  pub few : (n : ℕ) → count b n ≤ HOLD_COUNT_MAX + 1
