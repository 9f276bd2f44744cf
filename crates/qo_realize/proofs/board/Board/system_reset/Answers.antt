-- The removals come to their end, and then the machine goes through the phases.
use Rattle.std.proofs.Common.{length}
use Rattle.qo_model.specs.Hotplug.{all_completed, reset_whole}
use Rattle.qo_realize.proofs.board.Board.system_reset.Goals as goal

pub returns : goal.returns
unfolding reset_whole
returns g c = λ b s. c.pulse_machine.ensures (all_completed (length b.pending) b) (c.complete_all.ensures b s)
