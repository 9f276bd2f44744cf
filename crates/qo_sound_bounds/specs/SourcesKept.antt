-- For a law alone. What keeps the sources of clocks sound.
use Rattle.std.specs.Prelude.{◌≡◌, ℕ, Bool, true, List, Ok}
use Rattle.qo_values.specs.Registers.{Registers}
use Rattle.qo_values.specs.declared.kinds.Act.{Act}
use Rattle.qo_values.specs.declared.kinds.TypeId.{TypeId}
use Rattle.qo_model.specs.Board.{Board}
use Rattle.qo_model.specs.ClockChanges.{clock_scaled, clock_set}
use Rattle.qo_model.specs.Clocks.{acted}
use Rattle.qo_model.specs.FinalNotesRuns.{Change, changed}
use Rattle.qo_model.specs.Hotplug.{asked, refused, reset_whole}
use Rattle.qo_model.specs.Objects.{with_attempt}
use Rattle.qo_model.specs.Opening.{opening_board}
use Rattle.qo_model.specs.Plug.{Wanted, cut_attempt, plug, plug_attempt}
use Rattle.qo_model.specs.Reset.{after_hold, pulse, released}
use Rattle.qo_model.specs.Unplug.{detach}
use Rattle.qo_sound_devices.specs.SoundDevices.{SoundDevices}
use Rattle.qo_sound_devices.specs.SoundPlaces.{stands}
use Rattle.qo_sound_clocks.specs.RegisterWrites.{registers_set}
use Rattle.qo_sound_bounds.specs.SoundSources.{SoundSources}
use Rattle.qo_values.specs.declared.kinds.ResetKind.{ResetKind}

-- some of it where the board is sound as far as devices go
pub record SourcesKeptLaw : Type 0 where
  -- they are sound on the opening board
  pub opening : SoundSources opening_board
  -- what changes none of the objects: as an attempt that was given up or cut, or a removal that is asked for or refused
  pub beside : (b c : Board) → c.records ≡ b.records → SoundSources b → SoundSources c
  pub attempt : (b : Board) (t : TypeId) → SoundSources b → SoundSources (with_attempt b t)
  pub given_up : (b : Board) (t : TypeId) (bus stage : ℕ) → SoundSources b → SoundSources (plug_attempt b t bus stage)
  pub cut : (b : Board) (t : TypeId) (i : ℕ) (joined : Bool) → SoundSources b → SoundSources (cut_attempt b t i joined)
  pub asked_for : (b : Board) (id : List ℕ) → SoundSources b → SoundSources (asked b id).board
  pub refused_by : (b : Board) (d : ℕ) → SoundSources b → SoundSources (refused b d)
  -- an act; a hold, a hold less, and both
  pub acts : (act : Act) (n period : ℕ) (b : Board) → SoundDevices b → SoundSources b → SoundSources (acted act n period b)
  pub held_so : (b : Board) (n : ℕ) (kind : ResetKind) → SoundDevices b → SoundSources b → SoundSources (after_hold b n kind)
  pub released_so : (b : Board) (n : ℕ) → SoundDevices b → SoundSources b → SoundSources (released b n)
  pub pulsed : (b : Board) (n : ℕ) (kind : ResetKind) → SoundDevices b → SoundSources b → SoundSources (pulse b n kind)
  -- a write of a clock's period, and of its mul and div, that is not refused; other registers of an object, whatever they are
  pub set : (b d : Board) (c period : ℕ) → clock_set b c period ≡ Ok d → SoundDevices b → SoundSources b → SoundSources d
  pub scaled : (b d : Board) (c mul div : ℕ) → clock_scaled b c mul div ≡ Ok d → SoundDevices b → SoundSources b → SoundSources d
  pub registers : (b : Board) (n : ℕ) (registers : Registers) → SoundDevices b → SoundSources b → SoundSources (registers_set b n registers)
  -- each change by command on objects, taken or refused, and adding a device, taken or refused at any stage
  pub change : (b : Board) (change : Change) → SoundDevices b → SoundSources b → SoundSources (changed b change)
  pub plugged : (b : Board) (a : Wanted) → SoundDevices b → SoundSources b → SoundSources (plug b a).board
  -- a device that stands in a container and is detached with all that is below it, and the reset of the whole board
  pub detached : (b : Board) (d : ℕ) → SoundDevices b → stands b d ≡ true → SoundSources b → SoundSources (detach b d)
  pub reset : (b : Board) → SoundDevices b → SoundSources b → SoundSources (reset_whole b)
