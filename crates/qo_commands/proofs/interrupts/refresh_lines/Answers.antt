-- What is read is of the sound board that stands there.
use Rattle.std.proofs.Common.{subst, sym}
use Rattle.qo_clocks.specs.Kept.{Clocked}
use Rattle.qo_heap.specs.Board.{Shows}
use Rattle.qo_realize.proofs.RegisterLemmas.{timely-there}
use Rattle.qo_commands.proofs.InterruptLemmas.{lines-read}
use Rattle.qo_commands.proofs.interrupts.refresh_lines.Goals as goal

pub refresh-requires : goal.refresh-requires
refresh-requires g c = rw c.heap.ensures (timely-there c.args.board.now c.reveal_board.ensures.stands)

pub returns : goal.returns
returns g c =
    lines-read c.args.board.now c.args.lines.now c.refresh.new.self c.requires c.reveal_board.ensures.periods
    (λ b shows clocked shaped.
    c.refresh.ensures b (subst (Shows b) (sym c.heap.ensures) shows) (subst (Clocked b) (sym c.heap.ensures) clocked) shaped)
