-- For a law alone. What keeps the objects of a board shaped as their types say.
use Rattle.std.specs.Prelude.{◌≡◌, ℕ, ◌<◌, ◌^◌, Bool, true, List, Some, Ok}
use Rattle.qo_values.specs.Registers.{Effect, body_write, Registers}
use Rattle.qo_values.specs.declared.kinds.Act.{Act}
use Rattle.qo_values.specs.declared.kinds.TypeId.{TypeId}
use Rattle.qo_model.specs.Board.{Board, Record, record_of}
use Rattle.qo_model.specs.ClockChanges.{clock_scaled, clock_set}
use Rattle.qo_model.specs.Clocks.{acted}
use Rattle.qo_model.specs.FinalNotesRuns.{Change, changed}
use Rattle.qo_model.specs.Hotplug.{asked, refused, reset_whole}
use Rattle.qo_model.specs.Objects.{with_attempt}
use Rattle.qo_model.specs.Opening.{opening_board}
use Rattle.qo_model.specs.Plug.{Wanted, cut_attempt, plug, plug_attempt}
use Rattle.qo_model.specs.Reset.{after_hold, pulse, released}
use Rattle.qo_model.specs.Unplug.{detach}
use Rattle.qo_sound_clocks.specs.RegisterWrites.{registers_set}
use Rattle.qo_sound_devices.specs.SoundDevices.{SoundDevices}
use Rattle.qo_sound_devices.specs.SoundPlaces.{stands}
use Rattle.qo_sound_shapes.specs.SoundShape.{SoundShape, is_like}
use Rattle.qo_values.specs.declared.kinds.ResetKind.{ResetKind}

-- what keeps them so, some of it where the board is sound as far as devices go
pub record ShapesKeptLaw : Type 0 where
  -- they are so on the opening board
  pub opening : SoundShape opening_board
  -- what changes none of the objects: as time that goes on, rings, an attempt that was given up or cut, or a removal that is asked for or refused
  pub beside : (b c : Board) → c.records ≡ b.records → SoundShape b → SoundShape c
  pub attempt : (b : Board) (t : TypeId) → SoundShape b → SoundShape (with_attempt b t)
  pub given_up : (b : Board) (t : TypeId) (bus stage : ℕ) → SoundShape b → SoundShape (plug_attempt b t bus stage)
  pub cut : (b : Board) (t : TypeId) (i : ℕ) (joined : Bool) → SoundShape b → SoundShape (cut_attempt b t i joined)
  pub asked_for : (b : Board) (id : List ℕ) → SoundShape b → SoundShape (asked b id).board
  pub refused_by : (b : Board) (d : ℕ) → SoundShape b → SoundShape (refused b d)
  -- an act; a hold, a hold less, and both
  pub acts : (act : Act) (n period : ℕ) (b : Board) → SoundShape b → SoundShape (acted act n period b)
  pub held_so : (b : Board) (n : ℕ) (kind : ResetKind) → SoundShape b → SoundShape (after_hold b n kind)
  pub released_so : (b : Board) (n : ℕ) → SoundShape b → SoundShape (released b n)
  pub pulsed : (b : Board) (n : ℕ) (kind : ResetKind) → SoundShape b → SoundShape (pulse b n kind)
  -- a write of a clock's period, and of its mul and div, with numbers as wide as their properties, that is not refused
  pub set : (b d : Board) (c period : ℕ) → period < 2 ^ 64 → clock_set b c period ≡ Ok d → SoundShape b → SoundShape d
  pub scaled : (b d : Board) (c mul div : ℕ) → mul < 2 ^ 32 → div < 2 ^ 32 → clock_scaled b c mul div ≡ Ok d → SoundShape b → SoundShape d
  -- other registers of an object, of the same body; those that a guest's write leaves are so
  pub registers : (b : Board) (n : ℕ) (registers : Registers) → ((r : Record) → record_of b n ≡ Some r → is_like registers r.registers ≡ true) → SoundShape b
      → SoundShape (registers_set b n registers)
  pub wrote : (r s : Registers) (effect : Effect) (reg value : ℕ) (ring : Bool) (now period : ℕ) → body_write r reg value ring now period ≡ Some (s, effect)
      → is_like s r ≡ true
  -- each change by command on objects, taken or refused
  pub change : (b : Board) (change : Change) → SoundDevices b → SoundShape b → SoundShape (changed b change)
  -- adding a device, taken or refused at any stage
  pub plugged : (b : Board) (a : Wanted) → SoundDevices b → SoundShape b → SoundShape (plug b a).board
  -- a device that stands in a container and is detached, with all that is below it; and the reset of the whole board
  pub detached : (b : Board) (d : ℕ) → SoundDevices b → stands b d ≡ true → SoundShape b → SoundShape (detach b d)
  pub reset : (b : Board) → SoundDevices b → SoundShape b → SoundShape (reset_whole b)
