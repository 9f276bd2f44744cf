-- For a law alone. What keeps a board sound as far as devices go.
use Rattle.std.specs.Prelude.{◌≡◌, ◌≤◌, ℕ, Bool, true, List, ◌∷◌}
use Rattle.qo_values.specs.declared.kinds.Act.{Act}
use Rattle.qo_values.specs.declared.kinds.TypeId.{TypeId}
use Rattle.qo_model.specs.Board.{Board, Notice}
use Rattle.qo_model.specs.Clocks.{acted}
use Rattle.qo_model.specs.FinalNotesRuns.{Change, changed}
use Rattle.qo_model.specs.Hotplug.{asked, refused, reset_whole}
use Rattle.qo_model.specs.Objects.{with_attempt}
use Rattle.qo_model.specs.Opening.{opening_board}
use Rattle.qo_model.specs.Plug.{Wanted, cut_attempt, plug, plug_attempt}
use Rattle.qo_model.specs.Reset.{after_hold, pulse, released}
use Rattle.qo_model.specs.Unplug.{detach}
use Rattle.qo_sound_devices.specs.DeviceRuns.{DeviceStep, after_steps}
use Rattle.qo_sound_devices.specs.SoundDevices.{SoundDevices}
use Rattle.qo_sound_devices.specs.SoundPlaces.{stands}
use Rattle.qo_values.specs.declared.kinds.ResetKind.{ResetKind}

-- what keeps it so, with no more said than that it is so before
pub record DevicesKeptLaw : Type 0 where
  -- the opening board is sound so, and so is each board after any steps of it
  pub opening : SoundDevices opening_board
  pub run : (steps : List DeviceStep) → SoundDevices (after_steps opening_board steps)
  -- each change by command on objects, taken or refused
  pub change : (b : Board) (change : Change) → SoundDevices b → SoundDevices (changed b change)
  -- an attempt that was given up, to make an object and to add a device
  pub attempt : (b : Board) (t : TypeId) → SoundDevices b → SoundDevices (with_attempt b t)
  pub given_up : (b : Board) (t : TypeId) (bus stage : ℕ) → SoundDevices b → SoundDevices (plug_attempt b t bus stage)
  -- a removal that is asked for, or refused by the guest; and a notice that is read
  pub asked_for : (b : Board) (id : List ℕ) → SoundDevices b → SoundDevices (asked b id).board
  pub refused_by : (b : Board) (d : ℕ) → SoundDevices b → SoundDevices (refused b d)
  pub read : (b : Board) (notice : Notice) (others : List Notice) → b.notices ≡ notice ∷ others → SoundDevices b
      → SoundDevices (record b { notices = others })
  -- what changes none of the objects, births, accepted adds, pins, pending removals and notices, at no earlier time, as events that are sent
  pub beside : (b c : Board) → c.records ≡ b.records → c.born ≡ b.born → c.anonymous ≡ b.anonymous → c.pins ≡ b.pins → c.pending ≡ b.pending
      → c.notices ≡ b.notices → b.now ≤ c.now → SoundDevices b → SoundDevices c
  -- adding a device, taken or refused at any stage, and an attempt at it that was cut; and a device that stands in a container and is detached
  pub plugged : (b : Board) (a : Wanted) → SoundDevices b → SoundDevices (plug b a).board
  pub cut : (b : Board) (t : TypeId) (i : ℕ) (joined : Bool) → SoundDevices b → SoundDevices (cut_attempt b t i joined)
  pub detached : (b : Board) (d : ℕ) → SoundDevices b → stands b d ≡ true → SoundDevices (detach b d)
  -- an act; a hold, a hold less, and both; and the reset of the whole board, which lets go of each device whose removal is pending
  pub acts : (act : Act) (n period : ℕ) (b : Board) → SoundDevices b → SoundDevices (acted act n period b)
  pub held_so : (b : Board) (n : ℕ) (kind : ResetKind) → SoundDevices b → SoundDevices (after_hold b n kind)
  pub released_so : (b : Board) (n : ℕ) → SoundDevices b → SoundDevices (released b n)
  pub pulsed : (b : Board) (n : ℕ) (kind : ResetKind) → SoundDevices b → SoundDevices (pulse b n kind)
  pub reset : (b : Board) → SoundDevices b → SoundDevices (reset_whole b)
