-- For proofs alone. Periods on the heap.
use Rattle.std.specs.Prelude.{ℕ, ◌^◌, ◌-◌, min, nat_le, if◌then◌else◌, Option, None, Some}
use Rattle.qo_model.specs.Clocks.{scaled_by}
use Rattle.qo_heap.specs.Objects.{Objects}
use Rattle.qo_clocks.specs.Reads.{div_on, mul_on}

-- a period as the clocks that go by a clock have it; and told as the greatest number of 64 bits where it is greater
abbrev pub wide_on : Objects → ℕ → ℕ → ℕ
wide_on v n period = scaled_by (mul_on v n) (div_on v n) period

abbrev pub scaled_on : Objects → ℕ → ℕ → ℕ
scaled_on v n period = min (wide_on v n period) (2 ^ 64 - 1)

-- a number, if it fits in 64 bits
abbrev pub fitting : ℕ → Option ℕ
fitting n = if nat_le (2 ^ 64) n then None else Some n
