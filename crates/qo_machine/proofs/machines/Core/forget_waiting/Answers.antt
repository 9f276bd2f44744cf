-- What is kept of the view is of the same records.
use Rattle.qo_machine.proofs.WiredLemmas.{view_told}
use Rattle.qo_machine.proofs.machines.Core.forget_waiting.Goals as goal

pub invariant_of-self : goal.invariant_of-self
invariant_of-self c = (
  c.self.invariant.0,
  view_told c.self.inside.board c.clear_events.new.self c.self.inside.view c.reveal_board.ensures.stands c.clear_events.ensures c.self.invariant.1,
)
