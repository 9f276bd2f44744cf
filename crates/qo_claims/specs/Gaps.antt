-- For proofs alone. How a range is fitted into a gap.
use Rattle.std.specs.Prelude.{◌≡◌, ℕ, ◌+◌, ◌≤◌, ◌<◌, ◌%◌, Option, Some, None}

-- the least multiple of align from an address on, and size bytes from there end by another; or none does
abbrev pub IsFirstFit : ℕ → ℕ → ℕ → ℕ → Option ℕ → Type 0
IsFirstFit from end size align None = (at : ℕ) → from ≤ at → at % align ≡ 0 → end < at + size
IsFirstFit from end size align (Some at) = (from ≤ at) × (at % align ≡ 0) × (at + size ≤ end) × ((lower : ℕ) → from ≤ lower → lower % align ≡ 0 → at ≤ lower)
