-- For a law alone. What keeps each object of a board telling the name of its type.
use Rattle.std.specs.Prelude.{◌≡◌, ℕ, ◌<◌, ◌^◌, Bool, true, List, Some, Ok}
use Rattle.qo_values.specs.Registers.{Registers}
use Rattle.qo_values.specs.declared.kinds.Act.{Act}
use Rattle.qo_values.specs.declared.kinds.ResetKind.{ResetKind}
use Rattle.qo_values.specs.declared.kinds.TypeId.{TypeId}
use Rattle.qo_model.specs.Board.{Board, Record, record_of}
use Rattle.qo_model.specs.ClockChanges.{clock_scaled, clock_set}
use Rattle.qo_model.specs.Clocks.{acted}
use Rattle.qo_model.specs.FinalNotesRuns.{Change, changed}
use Rattle.qo_model.specs.Hotplug.{asked, refused, reset_whole}
use Rattle.qo_model.specs.Objects.{with_attempt}
use Rattle.qo_model.specs.Opening.{opening_board}
use Rattle.qo_model.specs.Plug.{Wanted, cut_attempt, plug, plug_attempt}
use Rattle.qo_model.specs.Reset.{after_hold, pulse, released}
use Rattle.qo_model.specs.Unplug.{detach}
use Rattle.qo_sound_clocks.specs.RegisterWrites.{registers_set}
use Rattle.qo_sound_devices.specs.SoundDevices.{SoundDevices}
use Rattle.qo_sound_devices.specs.SoundPlaces.{stands}
use Rattle.qo_sound_shapes.specs.SoundShape.{SoundShape, is_like}
use Rattle.qo_save.specs.Description.{Description}
use Rattle.qo_save.specs.Rebuilding.{rebuilt}
use Rattle.qo_good.specs.GoodBoards.{IsWhole}
use Rattle.qo_alike.specs.AlikeBoards.{TellsTypes}

-- where the objects are shaped as their types say, some of it where the board is sound as far as devices go
pub record TypesToldLaw : Type 0 where
  -- the opening board's objects do
  pub opening : TellsTypes opening_board
  -- what changes none of the objects: as time that goes on, rings, a notice that is read, an attempt that was given up or cut, or a removal that is refused
  pub beside : (b c : Board) → c.records ≡ b.records → TellsTypes b → TellsTypes c
  pub attempt : (b : Board) (t : TypeId) → TellsTypes b → TellsTypes (with_attempt b t)
  pub given_up : (b : Board) (t : TypeId) (bus stage : ℕ) → TellsTypes b → TellsTypes (plug_attempt b t bus stage)
  pub cut : (b : Board) (t : TypeId) (i : ℕ) (joined : Bool) → TellsTypes b → TellsTypes (cut_attempt b t i joined)
  pub refused_by : (b : Board) (d : ℕ) → TellsTypes b → TellsTypes (refused b d)
  -- a removal that is asked for; an act; a hold, a hold less, and both
  pub asked_for : (b : Board) (id : List ℕ) → SoundShape b → TellsTypes b → TellsTypes (asked b id).board
  pub acts : (act : Act) (n period : ℕ) (b : Board) → SoundShape b → TellsTypes b → TellsTypes (acted act n period b)
  pub held_so : (b : Board) (n : ℕ) (kind : ResetKind) → SoundShape b → TellsTypes b → TellsTypes (after_hold b n kind)
  pub released_so : (b : Board) (n : ℕ) → SoundShape b → TellsTypes b → TellsTypes (released b n)
  pub pulsed : (b : Board) (n : ℕ) (kind : ResetKind) → SoundShape b → TellsTypes b → TellsTypes (pulse b n kind)
  -- a write of a clock's period, and of its mul and div, with numbers as wide as their properties, that is not refused
  pub set : (b d : Board) (c period : ℕ) → period < 2 ^ 64 → clock_set b c period ≡ Ok d → SoundShape b → TellsTypes b → TellsTypes d
  pub scaled : (b d : Board) (c mul div : ℕ) → mul < 2 ^ 32 → div < 2 ^ 32 → clock_scaled b c mul div ≡ Ok d → SoundShape b → TellsTypes b → TellsTypes d
  -- other registers of an object, of the same body
  pub registers : (b : Board) (n : ℕ) (registers : Registers) → ((r : Record) → record_of b n ≡ Some r → is_like registers r.registers ≡ true) → SoundShape b
      → TellsTypes b → TellsTypes (registers_set b n registers)
  -- each change by command on objects, and adding a device, taken or refused at any stage
  pub change : (b : Board) (change : Change) → SoundDevices b → SoundShape b → TellsTypes b → TellsTypes (changed b change)
  pub plugged : (b : Board) (a : Wanted) → SoundDevices b → SoundShape b → TellsTypes b → TellsTypes (plug b a).board
  -- a device that stands in a container and is detached, with all that is below it; and the reset of the whole board
  pub detached : (b : Board) (d : ℕ) → SoundDevices b → stands b d ≡ true → SoundShape b → TellsTypes b → TellsTypes (detach b d)
  pub reset : (b : Board) → SoundDevices b → SoundShape b → TellsTypes b → TellsTypes (reset_whole b)
  -- a board that is rebuilt of a description, and whole
  pub rebuilt_so : (d : Description) (c : Board) → rebuilt d ≡ Ok c → IsWhole c → TellsTypes c
