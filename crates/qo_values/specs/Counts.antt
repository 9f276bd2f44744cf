-- Counts that a guest reads in 32 bits.
use Rattle.std.specs.Prelude.{ℕ, ◌+◌, min}
use Rattle.qo_values.specs.declared.limits.TheConstants.{COUNT_MAX}

-- a count one higher, which stays at COUNT_MAX once there
abbrev pub count_up : ℕ → ℕ
count_up count = min (count + 1) COUNT_MAX
