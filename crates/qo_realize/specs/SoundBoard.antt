-- When a board is sound: what each call of it keeps.
use Rattle.qo_model.specs.Board.{Board}
use Rattle.qo_sound_bounds.specs.SoundBounds.{SoundBounds}
use Rattle.qo_sound_bounds.specs.SoundHolds.{SoundHolds}
use Rattle.qo_sound_bounds.specs.SoundSegments.{SoundSegments}
use Rattle.qo_sound_bounds.specs.SoundSources.{SoundSources}
use Rattle.qo_sound_claims.specs.SoundBackends.{SoundBackends}
use Rattle.qo_sound_clocks.specs.ClockRuns.{SoundRun}
use Rattle.qo_sound_shapes.specs.SoundOwners.{SoundOwners}
use Rattle.qo_sound_shapes.specs.SoundShape.{SoundShape}

-- all groups of facts but those on the events that wait, and on the notes of phases
pub record SoundBoard (b : Board) : Type 0 where
  -- the tree is sound, devices stand in their places, and the lists that name devices name those; and so are the clocks with their numbers, and the moments of
  -- timers
  pub run : SoundRun b
  -- each object is shaped as its type says
  pub shape : SoundShape b
  -- what stands in `/objects` may be made by a user, and only devices have a path that is kept for their end
  pub owners : SoundOwners b
  -- the clock of each device goes by the one for its bus, and no other clock goes by one
  pub sources : SoundSources b
  -- the segments of timers are sound: what a timer has counted, and the one that is open
  pub segments : SoundSegments b
  -- the rings are sound, and so is what devices claim of rings, memory and addresses: what they name is there, and no two name the same
  pub backends : SoundBackends b
  -- holds are on what a reset reaches, and no object has more on it and above it than may be
  pub holds : SoundHolds b
  -- there are no more objects than there may be, and it is no later than it may be
  pub bounds : SoundBounds b
