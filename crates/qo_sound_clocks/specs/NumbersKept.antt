-- For a law alone. What keeps the numbers of clocks as wide as their properties.
use Rattle.std.specs.Prelude.{◌≡◌, ℕ, ◌<◌, ◌^◌, List, Ok}
use Rattle.qo_values.specs.declared.kinds.Act.{Act}
use Rattle.qo_model.specs.Board.{Board}
use Rattle.qo_model.specs.ClockChanges.{clock_scaled, clock_set}
use Rattle.qo_model.specs.Clocks.{acted}
use Rattle.qo_model.specs.FinalNotesRuns.{Change, changed}
use Rattle.qo_model.specs.Hotplug.{asked, reset_whole}
use Rattle.qo_model.specs.Opening.{opening_board}
use Rattle.qo_model.specs.Plug.{Wanted, plug}
use Rattle.qo_model.specs.Reset.{after_hold, pulse, released}
use Rattle.qo_model.specs.Unplug.{detach}
use Rattle.qo_sound.specs.TreeKept.{SoundTree}
use Rattle.qo_sound_clocks.specs.SoundNumbers.{SoundNumbers}
use Rattle.qo_values.specs.declared.kinds.ResetKind.{ResetKind}

-- some of it where the tree is sound
pub record NumbersKeptLaw : Type 0 where
  -- they are so on the opening board
  pub opening : SoundNumbers opening_board
  -- what changes none of the objects: as an attempt that was given up or cut, and a removal that is refused; and a removal that is asked for
  pub beside : (b c : Board) → c.records ≡ b.records → SoundNumbers b → SoundNumbers c
  pub asked_for : (b : Board) (id : List ℕ) → SoundNumbers b → SoundNumbers (asked b id).board
  -- an act; a hold, a hold less, and both
  pub acts : (act : Act) (n period : ℕ) (b : Board) → SoundNumbers b → SoundNumbers (acted act n period b)
  pub held_so : (b : Board) (n : ℕ) (kind : ResetKind) → SoundNumbers b → SoundNumbers (after_hold b n kind)
  pub released_so : (b : Board) (n : ℕ) → SoundNumbers b → SoundNumbers (released b n)
  pub pulsed : (b : Board) (n : ℕ) (kind : ResetKind) → SoundNumbers b → SoundNumbers (pulse b n kind)
  -- a write of a clock's period, and of its mul and div, with numbers as wide
  pub set : (b d : Board) (c period : ℕ) → period < 2 ^ 64 → clock_set b c period ≡ Ok d → SoundNumbers b → SoundNumbers d
  pub scaled : (b d : Board) (c mul div : ℕ) → mul < 2 ^ 32 → div < 2 ^ 32 → clock_scaled b c mul div ≡ Ok d → SoundNumbers b → SoundNumbers d
  -- each change by command on objects, and adding a device, taken or refused at any stage
  pub change : (b : Board) (change : Change) → SoundTree b → SoundNumbers b → SoundNumbers (changed b change)
  pub plugged : (b : Board) (a : Wanted) → SoundTree b → SoundNumbers b → SoundNumbers (plug b a).board
  -- a device that is detached with all that is below it, and the reset of the whole board
  pub detached : (b : Board) (d : ℕ) → SoundTree b → SoundNumbers b → SoundNumbers (detach b d)
  pub reset : (b : Board) → SoundTree b → SoundNumbers b → SoundNumbers (reset_whole b)
