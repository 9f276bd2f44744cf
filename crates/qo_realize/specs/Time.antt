-- The virtual time, in ns, and whether it goes on (QEMU's QAPI, `stop` and `cont`; include/qemu/timer.h, QEMU_CLOCK_VIRTUAL).
use Rattle.std.specs.Prelude.{◌≡◌, ℕ, ◌+◌, nat_lt, Bool, not, if◌then◌else◌, Some, None, Result, Ok, Err}
use Rattle.qo_values.specs.declared.codes.Code.{Code}
use Rattle.qo_values.specs.declared.codes.Code.TheVariants.{E53}
use Rattle.qo_values.specs.declared.limits.TheConstants.{TIME_MAX}
use Rattle.qo_model.specs.Board.{Board}
use Rattle.qo_model.specs.Objects.{Changed}
use Rattle.qo_realize.specs.Parts.{Parts}
use Rattle.qo_realize.specs.Representation.{Stands}

-- a board at another moment; and one that runs, or stands still
abbrev pub at_time : ℕ → Board → Board
at_time now b = record b { now = now }

abbrev pub with_running : Bool → Board → Board
with_running on b = record b { running = on }

-- whether that is a change
abbrev pub switches : Board → Bool → Bool
switches b on = if on then not b.running else b.running

-- where the machine runs its time goes on by so much; it is refused where it would pass the greatest moment
abbrev pub advanced : Board → ℕ → Changed
advanced b ns =
    if not b.running then record { refusal = None; board = b }
    else if nat_lt TIME_MAX (b.now + ns) then record { refusal = Some E53; board = b }
    else record { refusal = None; board = at_time (b.now + ns) b }

-- the time went on, or did not, and this is it; or it is refused by this code
abbrev pub Advances : Changed → Result ℕ Code → Parts → Type 0
Advances change (Ok time) p = (change.refusal ≡ None) × Stands change.board p × (time ≡ change.board.now)
Advances change (Err code) p = (change.refusal ≡ Some code) × Stands change.board p
