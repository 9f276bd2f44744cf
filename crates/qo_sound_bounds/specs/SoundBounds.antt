-- When a board is within the limits of the profile (docs/PROFILE.md): how many objects there are, and how late it is.
use Rattle.std.specs.Prelude.{◌≤◌, length}
use Rattle.qo_values.specs.declared.limits.TheConstants.{LIVE_OBJECTS_MAX, TIME_MAX}
use Rattle.qo_model.specs.Board.{Board}

-- there are no more objects than may live at once, and the virtual time is no later than the greatest
pub record SoundBounds (b : Board) : Type 0 where
  pub room : length b.records ≤ LIVE_OBJECTS_MAX
  pub time : b.now ≤ TIME_MAX
