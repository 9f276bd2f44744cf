-- All sessions are closed, and no guest line is unfinished.
use Rattle.std.proofs.Common.{◌∙◌, ap, ℕ, List, [], true}
use Rattle.qo_model.specs.Board.{Board}
use Rattle.qo_sessions.specs.Sessions.{State as Session}
use Rattle.qo_machine.proofs.RunLemmas.{closed_sixteen}
use Rattle.qo_machine.specs.Machine.{State}
use Rattle.qo_machine.proofs.machines.Core.finish.Goals as goal

abbrev over : Board → List ℕ → List Session → State
over b line sessions = record { board = b; sessions = sessions; guest_line = line; ended = true }

pub invariant_of-self : goal.invariant_of-self
invariant_of-self c = (c.close_where.ensures.size, c.self.invariant.1)

pub returns-clause-done : goal.returns-clause-done
returns-clause-done c = λ b.
    ap (λ (line : List ℕ). over b line c.close_where.new.sessions.items) c.clear.ensures.items
    ∙ ap (over b []) (c.close_where.ensures.closed ∙ closed_sixteen c.self.inside.sessions.items c.self.invariant.0)
