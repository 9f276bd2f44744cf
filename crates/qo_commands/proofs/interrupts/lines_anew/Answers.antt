-- The lines are those of a sound board that stands there.
use Rattle.qo_realize.proofs.RegisterLemmas.{timely-there}
use Rattle.qo_commands.proofs.InterruptLemmas.{lines-made}
use Rattle.qo_commands.proofs.interrupts.lines_anew.Goals as goal

pub remade-requires : goal.remade-requires
remade-requires g c = rw c.heap.ensures (timely-there c.args.board.now c.reveal_board.ensures.stands)

pub returns-in-Ok : goal.returns-in-Ok
returns-in-Ok g c = lines-made c.args.board.now c.in-Ok.lines c.reveal_board.ensures.stands c.reveal_board.ensures.periods
    (rw c.heap.ensures at c.in-Ok.ensures.lines)
