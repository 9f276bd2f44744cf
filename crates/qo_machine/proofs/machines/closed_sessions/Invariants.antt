-- So many sessions were made.
use Rattle.std.proofs.Common.{◌≡◌, replicate}
use Rattle.qo_sessions.specs.Sessions.{closed}
use Rattle.qo_machine.proofs.machines.closed_sessions.Given as goal

abbrev pub invariant-loop : goal.invariant-loop
invariant-loop l = l.sessions.items ≡ replicate l.counter closed
