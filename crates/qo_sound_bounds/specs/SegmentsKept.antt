-- For a law alone. What keeps the segments of timers sound.
use Rattle.std.specs.Prelude.{◌≡◌, ◌≢◌, ℕ, Bool, List, Some, Ok}
use Rattle.qo_values.specs.Registers.{Effect, body_write, Registers}
use Rattle.qo_values.specs.declared.kinds.Act.{Act}
use Rattle.qo_values.specs.declared.kinds.Act.TheVariants.{Pre, Update}
use Rattle.qo_values.specs.declared.kinds.TypeId.{TypeId}
use Rattle.qo_model.specs.Board.{Board, Record, record_of}
use Rattle.qo_model.specs.ClockChanges.{clock_scaled, clock_set}
use Rattle.qo_model.specs.Clocks.{acted}
use Rattle.qo_model.specs.FinalNotesRuns.{Change, changed}
use Rattle.qo_model.specs.Hotplug.{asked, refused, reset_whole}
use Rattle.qo_model.specs.Objects.{with_attempt}
use Rattle.qo_model.specs.Opening.{opening_board}
use Rattle.qo_model.specs.Plug.{Wanted, cut_attempt, plug, plug_attempt}
use Rattle.qo_model.specs.Reset.{after_hold, pulse, released}
use Rattle.qo_model.specs.Unplug.{detach}
use Rattle.qo_sound_clocks.specs.RegisterWrites.{registers_set}
use Rattle.qo_sound_clocks.specs.SoundTimes.{IsTimely, SoundTimes}
use Rattle.qo_sound_bounds.specs.SoundSegments.{IsSegmented, SoundSegments}
use Rattle.qo_values.specs.declared.kinds.ResetKind.{ResetKind}

-- some of it where no timer is ahead of the virtual time
pub record SegmentsKeptLaw : Type 0 where
  -- they are sound on the opening board, and then those of each object that is there are
  pub opening : SoundSegments opening_board
  pub there : (b : Board) (n : ℕ) (r : Record) → record_of b n ≡ Some r → SoundSegments b → IsSegmented r.registers
  -- what changes none of the objects, whatever the time: as time that goes on, an attempt that was given up or cut, or a removal that is asked for or refused
  pub beside : (b c : Board) → c.records ≡ b.records → SoundSegments b → SoundSegments c
  pub attempt : (b : Board) (t : TypeId) → SoundSegments b → SoundSegments (with_attempt b t)
  pub given_up : (b : Board) (t : TypeId) (bus stage : ℕ) → SoundSegments b → SoundSegments (plug_attempt b t bus stage)
  pub cut : (b : Board) (t : TypeId) (i : ℕ) (joined : Bool) → SoundSegments b → SoundSegments (cut_attempt b t i joined)
  pub asked_for : (b : Board) (id : List ℕ) → SoundSegments b → SoundSegments (asked b id).board
  pub refused_by : (b : Board) (d : ℕ) → SoundSegments b → SoundSegments (refused b d)
  -- a guest's write to a register at a moment that is not before the last one of the timer
  pub wrote : (r s : Registers) (effect : Effect) (reg value : ℕ) (ring : Bool) (now period : ℕ) → body_write r reg value ring now period ≡ Some (s, effect)
      → IsTimely now r → IsSegmented r → IsSegmented s
  -- an act but Pre, which Update follows; these two; a hold, a hold less, and both
  pub acts : (act : Act) (n period : ℕ) (b : Board) → act ≢ Pre → SoundTimes b → SoundSegments b → SoundSegments (acted act n period b)
  pub called_back : (n old new : ℕ) (b : Board) → SoundTimes b → SoundSegments b → SoundSegments (acted Update n new (acted Pre n old b))
  pub held_so : (b : Board) (n : ℕ) (kind : ResetKind) → SoundTimes b → SoundSegments b → SoundSegments (after_hold b n kind)
  pub released_so : (b : Board) (n : ℕ) → SoundTimes b → SoundSegments b → SoundSegments (released b n)
  pub pulsed : (b : Board) (n : ℕ) (kind : ResetKind) → SoundTimes b → SoundSegments b → SoundSegments (pulse b n kind)
  -- a write of a clock's period, and of its mul and div, that is not refused; other registers of an object, whose segments are sound
  pub set : (b d : Board) (c period : ℕ) → clock_set b c period ≡ Ok d → SoundTimes b → SoundSegments b → SoundSegments d
  pub scaled : (b d : Board) (c mul div : ℕ) → clock_scaled b c mul div ≡ Ok d → SoundTimes b → SoundSegments b → SoundSegments d
  pub registers : (b : Board) (n : ℕ) (registers : Registers) → IsSegmented registers → SoundSegments b → SoundSegments (registers_set b n registers)
  -- each change by command on objects, taken or refused, and adding a device, taken or refused at any stage
  pub change : (b : Board) (change : Change) → SoundTimes b → SoundSegments b → SoundSegments (changed b change)
  pub plugged : (b : Board) (a : Wanted) → SoundTimes b → SoundSegments b → SoundSegments (plug b a).board
  -- a device that is detached with all that is below it, and the reset of the whole board
  pub detached : (b : Board) (d : ℕ) → SoundTimes b → SoundSegments b → SoundSegments (detach b d)
  pub reset : (b : Board) → SoundTimes b → SoundSegments b → SoundSegments (reset_whole b)
