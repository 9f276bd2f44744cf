-- For a law alone. What writes of clocks keep beside the clocks.
use Rattle.std.specs.Prelude.{◌≡◌, ℕ, Ok}
use Rattle.qo_model.specs.Board.{Board}
use Rattle.qo_model.specs.ClockChanges.{clock_scaled, clock_set}
use Rattle.qo_model.specs.FinalNotes.{NotesInOrder}
use Rattle.qo_sound.specs.TreeKept.{SoundTree}
use Rattle.qo_sound_devices.specs.SoundDevices.{SoundDevices}

-- a write of a clock's period, and of its mul and div, that is not refused
pub record WritesKeepLaw : Type 0 where
  -- keeps the tree sound, and where devices stand, and the lists that name devices
  pub set_tree : (b d : Board) (c period : ℕ) → clock_set b c period ≡ Ok d → SoundTree b → SoundTree d
  pub scaled_tree : (b d : Board) (c mul div : ℕ) → clock_scaled b c mul div ≡ Ok d → SoundTree b → SoundTree d
  pub set_devices : (b d : Board) (c period : ℕ) → clock_set b c period ≡ Ok d → SoundDevices b → SoundDevices d
  pub scaled_devices : (b d : Board) (c mul div : ℕ) → clock_scaled b c mul div ≡ Ok d → SoundDevices b → SoundDevices d
  -- and the notes in order: who is called back is there
  pub set_notes : (b d : Board) (c period : ℕ) → clock_set b c period ≡ Ok d → NotesInOrder b → NotesInOrder d
  pub scaled_notes : (b d : Board) (c mul div : ℕ) → clock_scaled b c mul div ≡ Ok d → NotesInOrder b → NotesInOrder d
