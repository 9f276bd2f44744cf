-- What other registers of an object keep.
use Rattle.std.specs.Prelude.{ℕ}
use Rattle.qo_values.specs.Registers.{Registers}
use Rattle.qo_model.specs.Board.{Board, Record}
use Rattle.qo_model.specs.FinalNotes.{NotesInOrder}
use Rattle.qo_model.specs.Release.{edit}
use Rattle.qo_sound.specs.TreeKept.{SoundTree}
use Rattle.qo_sound_devices.specs.SoundDevices.{SoundDevices}
use Rattle.qo_sound_clocks.specs.SoundClocks.{SoundClocks}
use Rattle.qo_sound_clocks.specs.SoundNumbers.{SoundNumbers}
use Rattle.qo_sound_clocks.specs.SoundTimes.{IsTimely, SoundTimes}

-- the board with other registers of an object
abbrev pub with_registers : Registers → Record → Record
with_registers registers r = record r { registers = registers }

abbrev pub registers_set : Board → ℕ → Registers → Board
registers_set b n registers = edit n (with_registers registers) b

-- whatever they are, they leave the tree, where devices stand and the lists that name them, the clocks with their numbers, and the notes in order
pub record RegistersKeptLaw : Type 0 where
  pub tree : (b : Board) (n : ℕ) (registers : Registers) → SoundTree b → SoundTree (registers_set b n registers)
  pub devices : (b : Board) (n : ℕ) (registers : Registers) → SoundDevices b → SoundDevices (registers_set b n registers)
  pub clocks : (b : Board) (n : ℕ) (registers : Registers) → SoundClocks b → SoundClocks (registers_set b n registers)
  pub numbers : (b : Board) (n : ℕ) (registers : Registers) → SoundNumbers b → SoundNumbers (registers_set b n registers)
  pub notes : (b : Board) (n : ℕ) (registers : Registers) → NotesInOrder b → NotesInOrder (registers_set b n registers)
  -- and, where they are not ahead of the time, the moments
  pub times : (b : Board) (n : ℕ) (registers : Registers) → IsTimely b.now registers → SoundTimes b → SoundTimes (registers_set b n registers)
