-- For a law alone. Boards without timers, and what makes none.
use Rattle.std.specs.Prelude.{◌≡◌, ℕ, Bool, true, false, List, Some}
use Rattle.std.specs.List.{AllByRecursion}
use Rattle.std.specs.Option.{option_map_or}
use Rattle.qo_values.specs.Registers.{Registers, fresh_registers, timer}
use Rattle.qo_values.specs.declared.kinds.Act.{Act}
use Rattle.qo_values.specs.declared.kinds.TypeId.{TypeId}
use Rattle.qo_model.specs.Board.{Board, Record, record_of}
use Rattle.qo_model.specs.Clocks.{acted}
use Rattle.qo_model.specs.FinalNotesRuns.{Change, after_changes, changed}
use Rattle.qo_model.specs.Hotplug.{asked, refused, reset_whole}
use Rattle.qo_model.specs.Objects.{with_attempt}
use Rattle.qo_model.specs.Opening.{opening_board}
use Rattle.qo_model.specs.Plug.{Wanted, cut_attempt, plug}
use Rattle.qo_model.specs.Reset.{after_hold, pulse, released}
use Rattle.qo_model.specs.Types.{TypeInfo, type_named}
use Rattle.qo_model.specs.Unplug.{detach}
use Rattle.qo_values.specs.declared.kinds.ResetKind.{ResetKind}

-- whether registers are those of a timer
abbrev pub is_timer : Registers → Bool
is_timer (timer t) = true
is_timer r = false

-- no object of a board has the registers of a timer
abbrev pub Timerless : Board → Type 0
Timerless b = AllByRecursion (λ (r : Record). is_timer r.registers ≡ false) b.records

-- whether the objects of a type's name are timers
abbrev pub makes_timer : List ℕ → Bool
makes_timer driver = option_map_or (λ (row : TypeInfo). is_timer (fresh_registers row.id)) (type_named driver) false

-- what makes no timer
pub record TimerlessKeptLaw : Type 0 where
  -- a machine begins without timers; so it is on each board with the same objects, and each object that is there is none
  pub opening : Timerless opening_board
  pub same : (b c : Board) → c.records ≡ b.records → Timerless b → Timerless c
  pub there : (b : Board) (n : ℕ) (r : Record) → record_of b n ≡ Some r → Timerless b → is_timer r.registers ≡ false
  -- each change by command on objects, taken or refused, and an attempt that was given up
  pub change : (b : Board) (change : Change) → Timerless b → Timerless (changed b change)
  pub attempt : (b : Board) (t : TypeId) → Timerless b → Timerless (with_attempt b t)
  pub run : (changes : List Change) → Timerless (after_changes opening_board changes)
  -- adding a device that is no timer, taken or refused at any stage, and an attempt at any device that was cut
  pub plugged : (b : Board) (a : Wanted) → makes_timer a.driver ≡ false → Timerless b → Timerless (plug b a).board
  pub cut : (b : Board) (t : TypeId) (i : ℕ) (joined : Bool) → Timerless b → Timerless (cut_attempt b t i joined)
  -- a device that is detached; a removal that is asked for, or refused by the guest; an act
  pub detached : (b : Board) (d : ℕ) → Timerless b → Timerless (detach b d)
  pub asked_for : (b : Board) (id : List ℕ) → Timerless b → Timerless (asked b id).board
  pub refused_by : (b : Board) (d : ℕ) → Timerless b → Timerless (refused b d)
  pub acts : (act : Act) (n period : ℕ) (b : Board) → Timerless b → Timerless (acted act n period b)
  -- a hold of a reset, a hold less, and both; and the reset of the whole board
  pub held_so : (b : Board) (n : ℕ) (kind : ResetKind) → Timerless b → Timerless (after_hold b n kind)
  pub released_so : (b : Board) (n : ℕ) → Timerless b → Timerless (released b n)
  pub pulsed : (b : Board) (n : ℕ) (kind : ResetKind) → Timerless b → Timerless (pulse b n kind)
  pub reset : (b : Board) → Timerless b → Timerless (reset_whole b)
