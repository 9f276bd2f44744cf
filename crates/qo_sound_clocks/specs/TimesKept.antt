-- For a law alone. What keeps the moments of timers sound.
use Rattle.std.specs.Prelude.{◌≡◌, ℕ, ◌≤◌, Bool, List, Some, Ok}
use Rattle.qo_values.specs.Registers.{Effect, body_write, Registers}
use Rattle.qo_values.specs.declared.kinds.Act.{Act}
use Rattle.qo_values.specs.declared.kinds.TypeId.{TypeId}
use Rattle.qo_model.specs.Board.{Board, Record, record_of}
use Rattle.qo_model.specs.ClockChanges.{clock_scaled, clock_set}
use Rattle.qo_model.specs.Clocks.{acted}
use Rattle.qo_model.specs.FinalNotesRuns.{Change, changed}
use Rattle.qo_model.specs.Hotplug.{asked, refused, reset_whole}
use Rattle.qo_model.specs.Objects.{with_attempt}
use Rattle.qo_model.specs.Opening.{opening_board}
use Rattle.qo_model.specs.Plug.{Wanted, cut_attempt, plug, plug_attempt}
use Rattle.qo_model.specs.Reset.{after_hold, pulse, released}
use Rattle.qo_model.specs.Unplug.{detach}
use Rattle.qo_sound_clocks.specs.SoundTimes.{IsTimely, SoundTimes}
use Rattle.qo_values.specs.declared.kinds.ResetKind.{ResetKind}

-- on every board
pub record TimesKeptLaw : Type 0 where
  -- they are sound on the opening board, and then each object that is there is timely
  pub opening : SoundTimes opening_board
  pub there : (b : Board) (n : ℕ) (r : Record) → record_of b n ≡ Some r → SoundTimes b → IsTimely b.now r.registers
  -- time that goes on, and what changes neither the time nor an object: as an attempt that was given up or cut, or a removal that is asked for or refused
  pub beside : (b c : Board) → c.records ≡ b.records → b.now ≤ c.now → SoundTimes b → SoundTimes c
  pub attempt : (b : Board) (t : TypeId) → SoundTimes b → SoundTimes (with_attempt b t)
  pub given_up : (b : Board) (t : TypeId) (bus stage : ℕ) → SoundTimes b → SoundTimes (plug_attempt b t bus stage)
  pub cut : (b : Board) (t : TypeId) (i : ℕ) (joined : Bool) → SoundTimes b → SoundTimes (cut_attempt b t i joined)
  pub asked_for : (b : Board) (id : List ℕ) → SoundTimes b → SoundTimes (asked b id).board
  pub refused_by : (b : Board) (d : ℕ) → SoundTimes b → SoundTimes (refused b d)
  -- a guest's write to a register at a moment
  pub wrote : (r s : Registers) (effect : Effect) (reg value : ℕ) (ring : Bool) (now period : ℕ) → body_write r reg value ring now period ≡ Some (s, effect)
      → IsTimely now r → IsTimely now s
  -- an act; a hold, a hold less, and both
  pub acts : (act : Act) (n period : ℕ) (b : Board) → SoundTimes b → SoundTimes (acted act n period b)
  pub held_so : (b : Board) (n : ℕ) (kind : ResetKind) → SoundTimes b → SoundTimes (after_hold b n kind)
  pub released_so : (b : Board) (n : ℕ) → SoundTimes b → SoundTimes (released b n)
  pub pulsed : (b : Board) (n : ℕ) (kind : ResetKind) → SoundTimes b → SoundTimes (pulse b n kind)
  -- a write of a clock's period, and of its mul and div, that is not refused
  pub set : (b d : Board) (c period : ℕ) → clock_set b c period ≡ Ok d → SoundTimes b → SoundTimes d
  pub scaled : (b d : Board) (c mul div : ℕ) → clock_scaled b c mul div ≡ Ok d → SoundTimes b → SoundTimes d
  -- each change by command on objects, and adding a device, taken or refused at any stage
  pub change : (b : Board) (change : Change) → SoundTimes b → SoundTimes (changed b change)
  pub plugged : (b : Board) (a : Wanted) → SoundTimes b → SoundTimes (plug b a).board
  -- a device that is detached with all that is below it, and the reset of the whole board
  pub detached : (b : Board) (d : ℕ) → SoundTimes b → SoundTimes (detach b d)
  pub reset : (b : Board) → SoundTimes b → SoundTimes (reset_whole b)
