-- The board is the one that the machine stands at.
use Rattle.qo_machine.proofs.MachineLemmas.{seen_board, stands_in}
use Rattle.qo_machine.proofs.machines.Core.tell_new.Goals as goal

pub returns-clause-told : goal.returns-clause-told
returns-clause-told g c = λ b more stands new.
    c.tell_new.ensures.told b more (stands_in b c.self.inside.board c.args.self.now (seen_board c.self.view_is) stands) new

pub returns-clause-left : goal.returns-clause-left
returns-clause-left g c = λ b more stands new.
    c.tell_new.ensures.left b more (stands_in b c.self.inside.board c.args.self.now (seen_board c.self.view_is) stands) new
