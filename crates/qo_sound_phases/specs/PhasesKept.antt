-- What keeps the phases of a board sound.
use Rattle.std.specs.Prelude.{◌≡◌, ℕ, Bool, ◌&&◌, true, List, codes, None, Ok}
use Rattle.qo_values.specs.Registers.{Registers}
use Rattle.qo_values.specs.declared.kinds.Act.{Act}
use Rattle.qo_values.specs.declared.kinds.TypeId.{TypeId}
use Rattle.qo_model.specs.declared.notes.Deed.TheVariants.{Did}
use Rattle.qo_model.specs.Board.{Board}
use Rattle.qo_model.specs.ClockChanges.{clock_scaled, clock_set}
use Rattle.qo_model.specs.Clocks.{acted}
use Rattle.qo_model.specs.Depth.{among}
use Rattle.qo_model.specs.FinalNotesRuns.{Change, changed}
use Rattle.qo_model.specs.Hotplug.{asked, refused, reset_whole, woken}
use Rattle.qo_model.specs.Objects.{with_attempt}
use Rattle.qo_model.specs.Opening.{opening_board}
use Rattle.qo_model.specs.Paths.{attached, is_of}
use Rattle.qo_model.specs.Plug.{Wanted, cut_attempt, plug, plug_attempt}
use Rattle.qo_model.specs.Reset.{after_hold, pulse, released}
use Rattle.qo_model.specs.Types.{is_a}
use Rattle.qo_model.specs.Unplug.{detach}
use Rattle.qo_sound_devices.specs.SoundDevices.{SoundDevices}
use Rattle.qo_sound_devices.specs.SoundPlaces.{stands}
use Rattle.qo_sound_clocks.specs.RegisterWrites.{registers_set}
use Rattle.qo_sound_phases.specs.Phases.{phase_of}
use Rattle.qo_sound_phases.specs.SoundPhases.{SoundPhases}
use Rattle.qo_values.specs.declared.kinds.ResetKind.{ResetKind}

-- whether an object may be held in reset: it is in the tree, and a machine, a bus or a device
abbrev pub may_reset : Board → ℕ → Bool
may_reset b n = attached b n && is_of b (codes "resettable") n

-- what keeps them so, where the board is sound as far as devices go
pub record PhasesKeptLaw : Type 0 where
  -- the opening board is sound so, and so is what changes none of the objects, births, holds and notes, as a notice that is read or time that goes on
  pub opening : SoundPhases opening_board
  pub beside : (b c : Board) → c.records ≡ b.records → c.born ≡ b.born → c.holds ≡ b.holds → c.notes ≡ b.notes → SoundPhases b → SoundPhases c
  -- each change by command on objects, taken or refused, and an attempt to make an object that was given up
  pub change : (b : Board) (change : Change) → SoundDevices b → SoundPhases b → SoundPhases (changed b change)
  pub attempt : (b : Board) (t : TypeId) → SoundDevices b → SoundPhases b → SoundPhases (with_attempt b t)
  -- adding a device, taken or refused at any stage; and an attempt at it that was given up or cut
  pub plugged : (b : Board) (a : Wanted) → SoundDevices b → SoundPhases b → SoundPhases (plug b a).board
  pub given_up : (b : Board) (t : TypeId) (bus stage : ℕ) → is_a t (codes "device") ≡ true → SoundDevices b → SoundPhases b
      → SoundPhases (plug_attempt b t bus stage)
  pub cut : (b : Board) (t : TypeId) (i : ℕ) (joined : Bool) → SoundDevices b → SoundPhases b → SoundPhases (cut_attempt b t i joined)
  -- a removal that is asked for, or refused by the guest; and a device that stands in a container and is detached
  pub asked_for : (b : Board) (id : List ℕ) → SoundPhases b → SoundPhases (asked b id).board
  pub refused_by : (b : Board) (d : ℕ) → SoundPhases b → SoundPhases (refused b d)
  pub detached : (b : Board) (d : ℕ) → SoundDevices b → stands b d ≡ true → SoundPhases b → SoundPhases (detach b d)
  -- an act that is no phase
  pub acts : (act : Act) (n period : ℕ) (b : Board) → phase_of (Did act) ≡ None → SoundPhases b → SoundPhases (acted act n period b)
  -- a hold on an object that may be held, a hold less where one is, and both; the reset of the whole board; and the wakeup of the machine
  pub held_so : (b : Board) (n : ℕ) (kind : ResetKind) → may_reset b n ≡ true → SoundDevices b → SoundPhases b → SoundPhases (after_hold b n kind)
  pub released_so : (b : Board) (n : ℕ) → among b.holds n ≡ true → SoundDevices b → SoundPhases b → SoundPhases (released b n)
  pub pulsed : (b : Board) (n : ℕ) (kind : ResetKind) → may_reset b n ≡ true → SoundDevices b → SoundPhases b → SoundPhases (pulse b n kind)
  pub reset : (b : Board) → SoundDevices b → SoundPhases b → SoundPhases (reset_whole b)
  pub wakes : (b : Board) → SoundDevices b → SoundPhases b → SoundPhases (woken b)
  -- a write of a clock's period, and of its mul and div, that is not refused
  pub set : (b d : Board) (c period : ℕ) → clock_set b c period ≡ Ok d → SoundDevices b → SoundPhases b → SoundPhases d
  pub scaled : (b d : Board) (c mul div : ℕ) → clock_scaled b c mul div ≡ Ok d → SoundDevices b → SoundPhases b → SoundPhases d
  -- other registers of an object, whatever they are; and who stands in its place stands there still
  pub registers : (b : Board) (n : ℕ) (registers : Registers) → SoundPhases b → SoundPhases (registers_set b n registers)
  pub stand_with_registers : (b : Board) (n : ℕ) (registers : Registers) (d : ℕ) → stands b d ≡ true → stands (registers_set b n registers) d ≡ true
