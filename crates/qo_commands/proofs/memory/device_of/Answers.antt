-- a birth that no object has
use Rattle.qo_commands.proofs.MemoryLemmas.{no-device}
use Rattle.qo_commands.proofs.memory.device_of.Goals as goal

pub returns-in_err-dev-clause-none : goal.returns-in_err-dev-clause-none
returns-in_err-dev-clause-none g c = λ b stands.
    let none = c.in_err-dev.ensures.none in
    rw c.from_residual.ensures (no-device b c.args.board.now.objects c.args.place stands.shows (rw c.heap.ensures at none))
