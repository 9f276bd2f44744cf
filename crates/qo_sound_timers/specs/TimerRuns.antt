-- For a law alone. The timers of a run, by their calls (docs/devel/clocks.rst, "Clock callbacks"; the timer is a device of the profile).
use Rattle.std.specs.Prelude.{◌≡◌, ℕ, ◌≤◌, true, false, List, [], ◌∷◌, Option, Some, None, filter_map, ⊤}
use Rattle.qo_values.specs.Registers.{TimerRegisters, fresh_timer, timer}
use Rattle.qo_values.specs.Timer.{timer_ticks}
use Rattle.qo_timer.specs.Calls.{TimerCall, enter, hold, exit, pre, update, halt, read, write, after_calls, updates_follow}
use Rattle.qo_timer.specs.Segments.{marks}
use Rattle.qo_timer.specs.Sum.{total_ticks}
use Rattle.qo_machine.specs.Machine.{opening}
use Rattle.qo_machine.specs.Runs.{Turn, state_after}
use Rattle.qo_realize.specs.Registers.{registers_at}

-- the moment of a call, in ns, where it is given one
abbrev pub moment_of : TimerCall → Option ℕ
moment_of enter = None
moment_of hold = None
moment_of exit = None
moment_of (pre now old) = Some now
moment_of (update now) = Some now
moment_of (halt now period) = Some now
moment_of (read reg now period) = Some now
moment_of (write reg value now period) = Some now

-- moments none of which is later than the next one, nor the last one later than now
abbrev pub first_or : ℕ → List ℕ → ℕ
first_or now [] = now
first_or now (m ∷ ms) = m

abbrev pub RiseTo : ℕ → List ℕ → Type 0
RiseTo now [] = ⊤
RiseTo now (m ∷ ms) = (m ≤ first_or now ms) × RiseTo now ms

-- a timer is as these calls leave a new one: each Update follows a Pre, and their moments rise, up to now
pub record IsLeftBy (now : ℕ) (t : TimerRegisters) (calls : List TimerCall) : Type 0 where
  pub left : t ≡ after_calls fresh_timer calls
  pub follow : updates_follow false calls ≡ true
  pub rise : RiseTo now (filter_map moment_of calls)

-- the ticks that a timer counts, at any moment and period, are the sum over the segments that these calls mark out
abbrev pub CountsBy : TimerRegisters → List TimerCall → Type 0
CountsBy t calls = (now period : ℕ) → timer_ticks t now period ≡ total_ticks (marks false calls) now period

-- over every run, each timer that is there is as its calls leave it, and has counted what they mark out
abbrev pub TimersInRuns : Type 0
TimersInRuns =
    (turns : List Turn) (n : ℕ) (t : TimerRegisters) → registers_at (state_after opening turns).board n ≡ timer t
    → (calls : List TimerCall) × IsLeftBy (state_after opening turns).board.now t calls × CountsBy t calls
