-- For a law alone. What keeps the owners of a board sound.
use Rattle.std.specs.Prelude.{◌≡◌, ℕ, Bool, true, List, Ok}
use Rattle.qo_values.specs.Registers.{Registers}
use Rattle.qo_values.specs.declared.kinds.Act.{Act}
use Rattle.qo_values.specs.declared.kinds.TypeId.{TypeId}
use Rattle.qo_model.specs.Board.{Board}
use Rattle.qo_model.specs.ClockChanges.{clock_scaled, clock_set}
use Rattle.qo_model.specs.Clocks.{acted}
use Rattle.qo_model.specs.FinalNotesRuns.{Change, changed}
use Rattle.qo_model.specs.Hotplug.{asked, refused, reset_whole}
use Rattle.qo_model.specs.Objects.{with_attempt}
use Rattle.qo_model.specs.Opening.{opening_board}
use Rattle.qo_model.specs.Plug.{Wanted, cut_attempt, plug, plug_attempt}
use Rattle.qo_model.specs.Reset.{after_hold, pulse, released}
use Rattle.qo_model.specs.Unplug.{detach}
use Rattle.qo_sound_clocks.specs.RegisterWrites.{registers_set}
use Rattle.qo_sound_devices.specs.SoundDevices.{SoundDevices}
use Rattle.qo_sound_devices.specs.SoundPlaces.{stands}
use Rattle.qo_sound_shapes.specs.SoundOwners.{SoundOwners}
use Rattle.qo_values.specs.declared.kinds.ResetKind.{ResetKind}

-- what keeps them so, some of it where the board is sound as far as devices go
pub record OwnersKeptLaw : Type 0 where
  -- they are so on the opening board
  pub opening : SoundOwners opening_board
  -- what changes none of the objects: as time that goes on, rings, an attempt that was given up or cut, or a removal that is asked for or refused
  pub beside : (b c : Board) → c.records ≡ b.records → SoundOwners b → SoundOwners c
  pub attempt : (b : Board) (t : TypeId) → SoundOwners b → SoundOwners (with_attempt b t)
  pub given_up : (b : Board) (t : TypeId) (bus stage : ℕ) → SoundOwners b → SoundOwners (plug_attempt b t bus stage)
  pub cut : (b : Board) (t : TypeId) (i : ℕ) (joined : Bool) → SoundOwners b → SoundOwners (cut_attempt b t i joined)
  pub asked_for : (b : Board) (id : List ℕ) → SoundOwners b → SoundOwners (asked b id).board
  pub refused_by : (b : Board) (d : ℕ) → SoundOwners b → SoundOwners (refused b d)
  -- an act; a hold, a hold less, and both
  pub acts : (act : Act) (n period : ℕ) (b : Board) → SoundOwners b → SoundOwners (acted act n period b)
  pub held_so : (b : Board) (n : ℕ) (kind : ResetKind) → SoundOwners b → SoundOwners (after_hold b n kind)
  pub released_so : (b : Board) (n : ℕ) → SoundOwners b → SoundOwners (released b n)
  pub pulsed : (b : Board) (n : ℕ) (kind : ResetKind) → SoundOwners b → SoundOwners (pulse b n kind)
  -- a write of a clock's period, and of its mul and div, that is not refused
  pub set : (b d : Board) (c period : ℕ) → clock_set b c period ≡ Ok d → SoundOwners b → SoundOwners d
  pub scaled : (b d : Board) (c mul div : ℕ) → clock_scaled b c mul div ≡ Ok d → SoundOwners b → SoundOwners d
  -- other registers of an object, whatever they are
  pub registers : (b : Board) (n : ℕ) (registers : Registers) → SoundOwners b → SoundOwners (registers_set b n registers)
  -- each change by command on objects, taken or refused
  pub change : (b : Board) (change : Change) → SoundDevices b → SoundOwners b → SoundOwners (changed b change)
  -- adding a device, taken or refused at any stage
  pub plugged : (b : Board) (a : Wanted) → SoundDevices b → SoundOwners b → SoundOwners (plug b a).board
  -- a device that stands in a container and is detached, with all that is below it; and the reset of the whole board
  pub detached : (b : Board) (d : ℕ) → SoundDevices b → stands b d ≡ true → SoundOwners b → SoundOwners (detach b d)
  pub reset : (b : Board) → SoundDevices b → SoundOwners b → SoundOwners (reset_whole b)
