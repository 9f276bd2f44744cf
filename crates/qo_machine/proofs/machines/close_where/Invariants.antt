-- The sessions passed over are closed where they are lost.
use Rattle.std.proofs.Common.{◌≡◌, length, take}
use Rattle.qo_values.specs.declared.limits.TheConstants.{SESSIONS}
use Rattle.qo_machine.specs.Runs.{closed_where}
use Rattle.qo_machine.proofs.machines.close_where.Given as goal

abbrev pub invariant-loop-session : goal.invariant-loop-session
invariant-loop-session l =
    (l.sessions.items ≡ closed_where (take l.session l.lost) l.fn.sessions.items) × (length l.sessions.items ≡ SESSIONS)
