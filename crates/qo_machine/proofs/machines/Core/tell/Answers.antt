-- What a line comes to has a text.
use Rattle.std.proofs.Common.{refl}
use Rattle.qo_commands.proofs.CommandLemmas.{no_float}
use Rattle.qo_machine.proofs.MachineLemmas.{seen_board, stands_in}
use Rattle.qo_machine.proofs.machines.Core.tell.Goals as goal

pub returns-clause-came : goal.returns-clause-came
returns-clause-came g c = λ b stands.
    let here = stands_in b c.self.inside.board c.args.self.now (seen_board c.self.view_is) stands in
    record { stands = stands; events = refl; ends = refl; replied = c.in_ok-text.ensures b here (no_float b c.args.done.result) }
