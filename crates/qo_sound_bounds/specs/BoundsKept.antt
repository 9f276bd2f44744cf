-- For a law alone. What keeps a board within the profile's limits.
use Rattle.std.specs.Prelude.{◌≡◌, ℕ, ◌≤◌, Bool, List, Ok}
use Rattle.qo_values.specs.Registers.{Registers}
use Rattle.qo_values.specs.declared.kinds.Act.{Act}
use Rattle.qo_values.specs.declared.kinds.TypeId.{TypeId}
use Rattle.qo_values.specs.declared.limits.TheConstants.{TIME_MAX}
use Rattle.qo_model.specs.Board.{Board}
use Rattle.qo_model.specs.ClockChanges.{clock_scaled, clock_set}
use Rattle.qo_model.specs.Clocks.{acted}
use Rattle.qo_model.specs.FinalNotesRuns.{Change, changed}
use Rattle.qo_model.specs.Hotplug.{asked, refused, reset_whole}
use Rattle.qo_model.specs.Objects.{with_attempt}
use Rattle.qo_model.specs.Opening.{opening_board}
use Rattle.qo_model.specs.Plug.{Wanted, cut_attempt, plug, plug_attempt}
use Rattle.qo_model.specs.Reset.{after_hold, pulse, released}
use Rattle.qo_model.specs.Unplug.{detach}
use Rattle.qo_sound_clocks.specs.RegisterWrites.{registers_set}
use Rattle.qo_sound_bounds.specs.SoundBounds.{SoundBounds}
use Rattle.qo_values.specs.declared.kinds.ResetKind.{ResetKind}

-- on every board
pub record BoundsKeptLaw : Type 0 where
  -- the opening board is within them
  pub opening : SoundBounds opening_board
  -- what changes none of the objects, and sets a time that is no later than the greatest: as a notice that is read, or time that goes on
  pub beside : (b c : Board) → c.records ≡ b.records → c.now ≤ TIME_MAX → SoundBounds b → SoundBounds c
  -- an attempt that was given up, to make an object and to add a device, and one that was cut
  pub attempt : (b : Board) (t : TypeId) → SoundBounds b → SoundBounds (with_attempt b t)
  pub given_up : (b : Board) (t : TypeId) (bus stage : ℕ) → SoundBounds b → SoundBounds (plug_attempt b t bus stage)
  pub cut : (b : Board) (t : TypeId) (i : ℕ) (joined : Bool) → SoundBounds b → SoundBounds (cut_attempt b t i joined)
  -- a removal that is asked for, or refused by the guest
  pub asked_for : (b : Board) (id : List ℕ) → SoundBounds b → SoundBounds (asked b id).board
  pub refused_by : (b : Board) (d : ℕ) → SoundBounds b → SoundBounds (refused b d)
  -- an act; a hold, a hold less, and both
  pub acts : (act : Act) (n period : ℕ) (b : Board) → SoundBounds b → SoundBounds (acted act n period b)
  pub held_so : (b : Board) (n : ℕ) (kind : ResetKind) → SoundBounds b → SoundBounds (after_hold b n kind)
  pub released_so : (b : Board) (n : ℕ) → SoundBounds b → SoundBounds (released b n)
  pub pulsed : (b : Board) (n : ℕ) (kind : ResetKind) → SoundBounds b → SoundBounds (pulse b n kind)
  -- a write of a clock's period, and of its mul and div, that is not refused; other registers of an object, whatever they are
  pub set : (b d : Board) (c period : ℕ) → clock_set b c period ≡ Ok d → SoundBounds b → SoundBounds d
  pub scaled : (b d : Board) (c mul div : ℕ) → clock_scaled b c mul div ≡ Ok d → SoundBounds b → SoundBounds d
  pub registers : (b : Board) (n : ℕ) (registers : Registers) → SoundBounds b → SoundBounds (registers_set b n registers)
  -- each change by command on objects, taken or refused, and adding a device, taken or refused at any stage
  pub change : (b : Board) (change : Change) → SoundBounds b → SoundBounds (changed b change)
  pub plugged : (b : Board) (a : Wanted) → SoundBounds b → SoundBounds (plug b a).board
  -- a device that is detached with all that is below it, and the reset of the whole board
  pub detached : (b : Board) (d : ℕ) → SoundBounds b → SoundBounds (detach b d)
  pub reset : (b : Board) → SoundBounds b → SoundBounds (reset_whole b)
