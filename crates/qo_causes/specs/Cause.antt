-- The cause of a failure: a count that rose.
use Rattle.std.specs.Prelude.{ℕ, ◌+◌, ◌-◌, ◌^◌, ◌<◌, ◌≤◌, ◌≡◌, min, List, length, Result, Ok, Err, OnErr}
use Rattle.qo_causes.specs.declared.faults.Failed.{Failed}

-- the answer of a call that failed
abbrev pub fault : Failed
fault = record {}

-- one more, in a count whose last value is 2^64 - 1
abbrev pub counted : ℕ → ℕ
counted n = min (n + 1) (2 ^ 64 - 1)

-- the count rose, or stands at its last value
abbrev pub Rose : ℕ → ℕ → Type 0
Rose before now = counted before ≤ now

-- the count of faults has not fallen, and rose where the call failed
pub record HasCause {T E : Type 0} (before now : ℕ) (result : Result T E) : Type 0 where
  pub later : before ≤ now
  pub failed : OnErr result (Rose before now)

-- to take nothing of a piece that is not empty is a fault too
abbrev pub StuckRose : {E : Type 0} → ℕ → ℕ → List ℕ → Result ℕ E → Type 0
StuckRose before now piece (Ok n) = n ≡ 0 → 0 < length piece → Rose before now
StuckRose before now piece (Err e) = Unit {0}

-- a put that took something, or that had nothing to take, left the count of faults
abbrev pub PutQuiet : {E : Type 0} → ℕ → ℕ → List ℕ → Result ℕ E → Type 0
PutQuiet before now piece (Ok n) = (0 < n → now ≡ before) × (length piece ≡ 0 → now ≡ before)
PutQuiet before now piece (Err e) = Unit {0}
