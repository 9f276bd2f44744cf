-- When a board is sound as far as devices go.
use Rattle.qo_model.specs.Board.{Board}
use Rattle.qo_sound.specs.TreeKept.{SoundTree}
use Rattle.qo_sound_devices.specs.SoundLists.{SoundLists}
use Rattle.qo_sound_devices.specs.SoundPlaces.{SoundPlaces}

-- its tree is sound, and so is where devices stand, and the lists that name devices
pub record SoundDevices (b : Board) : Type 0 where
  pub tree : SoundTree b
  pub places : SoundPlaces b
  pub lists : SoundLists b
