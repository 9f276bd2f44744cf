-- For a law alone. Lists of a timer's calls.
use Rattle.std.specs.Prelude.{ℕ, Bool, true, false, not, ◌&&◌, ◌||◌, List, [], ◌∷◌, unwrap_or}
use Rattle.qo_values.specs.Registers.{TimerRegisters}
use Rattle.qo_values.specs.Timer.{timer_enter, timer_hold, timer_pre, timer_update, timer_halt, timer_write}

-- a call with what it is given; a value's bit 0 counts where the register is CTRL
pub data TimerCall : Type 0 where
  enter : TimerCall
  hold : TimerCall
  exit : TimerCall
  pre : (now old : ℕ) → TimerCall
  update : (now : ℕ) → TimerCall
  halt : (now period : ℕ) → TimerCall
  read : (reg now period : ℕ) → TimerCall
  write : (reg value now period : ℕ) → TimerCall

-- the registers after a call, as the call's contract has them
abbrev pub after_call : TimerRegisters → TimerCall → TimerRegisters
after_call t enter = timer_enter t
after_call t hold = timer_hold t
after_call t exit = t
after_call t (pre now old) = timer_pre t now old
after_call t (update now) = timer_update t now
after_call t (halt now period) = timer_halt t now period
after_call t (read reg now period) = t
after_call t (write reg value now period) = unwrap_or (timer_write t reg value now period) t

-- the registers after calls, from the first on
abbrev pub after_calls : TimerRegisters → List TimerCall → TimerRegisters
after_calls t [] = t
after_calls t (call ∷ calls) = after_calls (after_call t call) calls

abbrev pub is_pre : TimerCall → Bool
is_pre (pre now old) = true
is_pre _ = false

abbrev pub is_update : TimerCall → Bool
is_update (update now) = true
is_update _ = false

-- whether each Update directly follows a Pre, where after_pre says whether a Pre stands directly before the list
abbrev pub updates_follow : Bool → List TimerCall → Bool
updates_follow after_pre [] = true
updates_follow after_pre (call ∷ calls) =
    (not (is_update call) || after_pre) && updates_follow (is_pre call) calls
