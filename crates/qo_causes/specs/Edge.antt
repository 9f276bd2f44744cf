-- For proofs alone. The source over std's reader and the sink over std's writer.
use Rattle.std.specs.Prelude.{ℕ, ◌==◌, ◌&&◌, not, if◌then◌else◌, List, length, Result, Ok, Err}
use Rattle.qo_causes.specs.Cause.{counted}

-- a reader or a writer, and how many faults there were
pub record Counted (R : Type 0) : Type 0 where
  pub inner : R
  pub faults : ℕ

-- one more after an error
abbrev pub take_faults : {E : Type 0} → ℕ → Result ℕ E → ℕ
take_faults faults (Ok n) = faults
take_faults faults (Err e) = counted faults

-- one more after an error, and after a write that took nothing of a piece that is not empty
abbrev pub put_faults : {E : Type 0} → ℕ → List ℕ → Result ℕ E → ℕ
put_faults faults piece (Ok n) = if n == 0 && not (length piece == 0) then counted faults else faults
put_faults faults piece (Err e) = counted faults
