-- For proofs alone. What a hub over a Unix socket gives.
use Rattle.std.specs.Prelude.{◌≡◌, ◌≤◌, ◌<◌, length, Result, Ok, Err}
use Rattle.qo_causes.specs.declared.hubs.NextError.{NextError}
use Rattle.qo_causes.specs.declared.hubs.NextError.TheVariants.{Failed as NextFailed, Bad, Memory}
use Rattle.qo_causes.specs.declared.inputs.Input.{Input}
use Rattle.qo_causes.specs.declared.inputs.What.{What}
use Rattle.qo_causes.specs.declared.inputs.What.TheVariants.{Open, Bytes, Shut, Guest, Step, End}
use Rattle.qo_unix.specs.declared.unix_hub.TheConstants.{CHUNK_BYTES}

-- it is an input of session 0, or the end
abbrev pub OfOneSession : What → Type 0
OfOneSession (Open s) = s ≡ 0
OfOneSession (Bytes s chunk) = (s ≡ 0) × (length chunk ≤ CHUNK_BYTES)
OfOneSession (Shut s) = s ≡ 0
OfOneSession (Guest chunk) = ⊥
OfOneSession (Step ns) = ⊥
OfOneSession End = Unit {0}

-- an input of session 0, or the end, at a moment whose microseconds are fewer than a million
abbrev pub IsOurs : Input → Type 0
IsOurs i = OfOneSession i.what × (i.at.micros < 1000000)

-- no place is bad: the inputs are no record
abbrev pub NeverBad : {T : Type 0} → Result T NextError → Type 0
NeverBad (Ok x) = Unit {0}
NeverBad (Err NextFailed) = Unit {0}
NeverBad (Err (Bad n)) = ⊥
NeverBad (Err Memory) = Unit {0}
