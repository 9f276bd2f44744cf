-- For proofs alone. What a hub over a Unix socket counts, and whether it serves a client.
use Rattle.std.specs.Prelude.{◌≡◌, ◌<◌, ◌-◌, ℕ, Bool, true, false, Result, Ok, Err}
use Rattle.qo_causes.specs.Cause.{counted}
use Rattle.qo_causes.specs.declared.hubs.NextError.{NextError}
use Rattle.qo_causes.specs.declared.hubs.NextError.TheVariants.{Failed as NextFailed, Bad, Memory}
use Rattle.qo_causes.specs.declared.hubs.SendError.{SendError}
use Rattle.qo_causes.specs.declared.hubs.SendError.TheVariants.{Gone, Failed as SendFailed}
use Rattle.qo_causes.specs.declared.inputs.Input.{Input}
use Rattle.qo_causes.specs.declared.inputs.What.{What}
use Rattle.qo_causes.specs.declared.inputs.What.TheVariants.{Open, Bytes, Shut, Guest, Step, End}

-- how often `begin` or `next` failed, how often `send` did, and how often the session was lost
pub record Counts : Type 0 where
  pub next_faults : ℕ
  pub send_faults : ℕ
  pub losses : ℕ
  -- how many clients are still to be served after the one that is served
  pub left : ℕ
  -- whether a client is served
  pub serving : Bool

-- nothing has failed yet, and no session was lost
abbrev pub none_counted : Counts
none_counted = record { next_faults = 0; send_faults = 0; losses = 0; left = 0; serving = false }

-- one more fault of `begin` or `next`, one more of `send`, one more loss, after which no client is served
abbrev pub with_next_fault : Counts → Counts
with_next_fault c = record c { next_faults = counted c.next_faults }

abbrev pub with_send_fault : Counts → Counts
with_send_fault c = record c { send_faults = counted c.send_faults }

abbrev pub with_loss : Counts → Counts
with_loss c = record c { losses = counted c.losses; serving = false }

-- what is counted after a call of `begin`, of `next` and of `send`, by what it answered
abbrev pub after_begin : {T E : Type 0} → Counts → ℕ → Result T E → Counts
after_begin c n (Ok u) = record c { left = n }
after_begin c n (Err e) = with_next_fault c

-- a client that opens its session is no longer to come
abbrev pub left_after : ℕ → What → ℕ
left_after n (Open s) = n - 1
left_after n what = n

-- it is served from then on, until its session is shut
abbrev pub serving_after : Bool → What → Bool
serving_after serving (Open s) = true
serving_after serving (Shut s) = false
serving_after serving what = serving

abbrev pub after_input : Counts → What → Counts
after_input c what = record c { left = left_after c.left what; serving = serving_after c.serving what }

-- a client comes only where none is served and one is still to come, and the end where none is; all else is of the one that is served
abbrev pub IsDue : Counts → What → Type 0
IsDue c (Open s) = (0 < c.left) × (c.serving ≡ false)
IsDue c End = (c.left ≡ 0) × (c.serving ≡ false)
IsDue c what = c.serving ≡ true

-- what failed may have let a client come or go
abbrev pub after_next : Counts → Result Input NextError → Counts
after_next c (Ok i) = c
after_next c (Err NextFailed) = with_next_fault c
after_next c (Err (Bad n)) = c
after_next c (Err Memory) = c

abbrev pub after_send : {T : Type 0} → Counts → Result T SendError → Counts
after_send c (Ok u) = c
after_send c (Err SendFailed) = with_send_fault c
after_send c (Err (Gone s)) = with_loss c
