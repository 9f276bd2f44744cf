-- A timer's registers as a guest reads and writes them, its reset phases and its clock's callbacks (a device of the
-- profile; phases: docs/devel/reset.rst, "Multi-phase mechanism"; callbacks: docs/devel/clocks.rst, "Clock callbacks").
-- Moments are in ns and periods in units of which UNITS_PER_NS make one, 0 for a clock that stands still.
use Rattle.std.specs.Prelude.{ℕ, ◌+◌, ◌-◌, ◌*◌, ◌/◌, ◌%◌, Bool, true, false, ◌||◌, ◌==◌, if◌then◌else◌, Option, Some, None, is_some}
use Rattle.std.specs.Option.{option_map_or}
use Rattle.qo_values.specs.Counts.{count_up}
use Rattle.qo_values.specs.declared.limits.TheConstants.{RELOAD_AT_FIRST, UNITS_PER_NS}

-- a timer: done is the sum over the ended segments, each rounded down; began is where the open segment began, if there
-- is one; last is the last moment at which a segment began or ended, 0 at birth (moments in ns)
pub record TimerRegisters : Type 0 where
  pub enabled : Bool
  pub reload : ℕ
  pub done : ℕ
  pub began : Option ℕ
  pub last : ℕ
  pub holds : ℕ

-- a timer at birth: disabled, no segments
abbrev pub fresh_timer : TimerRegisters
fresh_timer = record { enabled = false; reload = RELOAD_AT_FIRST; done = 0; began = None; last = 0; holds = 0 }

-- the ticks of a span of time under a period, rounded down; none where the clock stands still
abbrev pub span_ticks : ℕ → ℕ → ℕ
span_ticks span period = if period == 0 then 0 else span * UNITS_PER_NS / period

-- whether a segment is open
abbrev pub is_open : TimerRegisters → Bool
is_open t = is_some t.began

-- the ticks counted: those of the ended segments and, where a segment is open, its own up to now
abbrev pub timer_ticks : TimerRegisters → ℕ → ℕ → ℕ
timer_ticks t now period = option_map_or (λ from. t.done + span_ticks (now - from) period) t.began t.done

-- the open segment ends
abbrev pub after_end : TimerRegisters → ℕ → ℕ → TimerRegisters
after_end t now period =
    if is_open t then record t { done = timer_ticks t now period; began = None; last = now } else t

-- a segment begins
abbrev pub after_begin : TimerRegisters → ℕ → TimerRegisters
after_begin t now = record t { began = Some now; last = now }

-- Enter: as at birth, but for the last moment and HOLDS
abbrev pub timer_enter : TimerRegisters → TimerRegisters
timer_enter t = record fresh_timer { last = t.last; holds = t.holds }

-- Wake: Enter, but RELOAD stays
abbrev pub timer_wake : TimerRegisters → TimerRegisters
timer_wake t = record (timer_enter t) { reload = t.reload }

-- Hold: HOLDS counts it
abbrev pub timer_hold : TimerRegisters → TimerRegisters
timer_hold t = record t { holds = count_up t.holds }

-- Pre, before the clock's period changes: the open segment ends with the old period
abbrev pub timer_pre : TimerRegisters → ℕ → ℕ → TimerRegisters
timer_pre t now old = after_end t now old

-- Update, after it changed: where enabled, a segment begins
abbrev pub timer_update : TimerRegisters → ℕ → TimerRegisters
timer_update t now = if t.enabled then after_begin t now else t

-- the open segment ends, and the timer is disabled: at Unrealize, and where CTRL falls
abbrev pub timer_halt : TimerRegisters → ℕ → ℕ → TimerRegisters
timer_halt t now period = record (after_end t now period) { enabled = false }

-- COUNT: it falls with each tick from RELOAD to 0, and then begins again
abbrev pub timer_count : TimerRegisters → ℕ → ℕ → ℕ
timer_count t now period = t.reload - timer_ticks t now period % (t.reload + 1)

-- what a register reads, or none where it is absent: 0 CTRL, 1 RELOAD, 2 COUNT, 3 HOLDS
abbrev pub timer_read : TimerRegisters → ℕ → ℕ → ℕ → Option ℕ
timer_read t reg now period =
    if reg == 0 then Some (if t.enabled then 1 else 0)
    else if reg == 1 then Some t.reload
    else if reg == 2 then Some (timer_count t now period)
    else if reg == 3 then Some t.holds
    else None

-- a write to CTRL: where bit 0 rises the segments are emptied and one begins, where it falls the timer halts;
-- an equal bit changes nothing
abbrev pub control_write : TimerRegisters → ℕ → ℕ → ℕ → TimerRegisters
control_write t value now period =
    if value % 2 == 1
    then (if t.enabled then t else after_begin (record t { enabled = true; done = 0 }) now)
    else (if t.enabled then timer_halt t now period else t)

-- a write to RELOAD: the segments are emptied and, where enabled, one begins
abbrev pub reload_write : TimerRegisters → ℕ → ℕ → TimerRegisters
reload_write t value now =
    let emptied = record t { reload = value; done = 0 } in
    if t.enabled then after_begin emptied now else emptied

-- the registers after a write, or none where the register is absent; COUNT and HOLDS stay as they are
abbrev pub timer_write : TimerRegisters → ℕ → ℕ → ℕ → ℕ → Option TimerRegisters
timer_write t reg value now period =
    if reg == 0 then Some (control_write t value now period)
    else if reg == 1 then Some (reload_write t value now)
    else if reg == 2 || reg == 3 then Some t
    else None
