-- A segment that ends, ends at the time.
use Rattle.std.proofs.Common.{ℕ, ◌≤◌, Bool, true, false, cond, None, arith}
use Rattle.qo_values.specs.Registers.{TimerRegisters}
use Rattle.qo_values.specs.Timer.{after_end, is_open, timer_ticks}

pub end-timely : (t : TimerRegisters) (now period : ℕ) → t.last ≤ now → (after_end t now period).last ≤ now
end-timely t now period le = go (is_open t)
  where
    go : (open_now : Bool) → (cond open_now (record t { done = timer_ticks t now period; began = None; last = now }) t).last ≤ now
    go true = omega arith
    go false = le
