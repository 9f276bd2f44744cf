-- The board is the one that the machine stands at.
use Rattle.std.proofs.Common.{subst}
use Rattle.qo_realize.specs.Representation.{StandsForGood}
use Rattle.qo_machine.proofs.MachineLemmas.{seen_board, stands_in}
use Rattle.qo_machine.proofs.machines.Core.notes_total.Goals as goal

pub returns-clause-good : goal.returns-clause-good
returns-clause-good c = subst StandsForGood (seen_board c.self.view_is) c.reveal_board.ensures.stands

pub returns-clause-total : goal.returns-clause-total
returns-clause-total c = λ b stands.
    c.notes_total.ensures.told b (stands_in b c.self.inside.board c.args.self.now (seen_board c.self.view_is) stands)
