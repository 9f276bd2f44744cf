use Rattle.std.proofs.Common.{subst}
use Rattle.qo_realize.specs.Representation.{StandsForGood}
use Rattle.qo_machine.proofs.MachineLemmas.{seen_board}
use Rattle.qo_machine.proofs.machines.Core.reveal_board.Goals as goal

pub returns : goal.returns
returns c = subst StandsForGood (seen_board c.self.view_is) c.reveal_board.ensures.stands
