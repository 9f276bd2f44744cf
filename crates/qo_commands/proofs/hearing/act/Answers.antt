-- The lines are read, and the run ends.
use Rattle.std.proofs.Common.{ap, refl}
use Rattle.qo_layout.specs.Layout.{register_at}
use Rattle.qo_commands.specs.Hearing.{acted, irq_by, nacked, peeked, polled_by, read_by, shut_down}
use Rattle.qo_commands.proofs.HearingLemmas.{came-as}
use Rattle.qo_commands.proofs.InterruptLemmas.{irq-heard}
use Rattle.qo_commands.proofs.TouchedLemmas.{if_none, nacked-touches, peeked-touches, read-touches, touches-none}
use Rattle.qo_commands.proofs.hearing.act.Goals as goal

pub returns-in-Shutdown-clause-came : goal.returns-in-Shutdown-clause-came
returns-in-Shutdown-clause-came g c = λ b s.
    came-as (acted b c.args.act.now) (shut_down b) c.shut_down.result c.args.board.now (ap (acted b) c.in-Shutdown.is) (s, c.shut_down.ensures.came b)

pub returns-in-Irq-clause-came : goal.returns-in-Irq-clause-came
returns-in-Irq-clause-came g c = λ b s.
    came-as (acted b c.args.act.now) (irq_by b) c.irq.result c.args.board.now (ap (acted b) c.in-Irq.is)
    (s, irq-heard c.args.board.now c.args.lines.now c.requires.lines c.irq.result c.irq.ensures.came b s)

-- these touch nothing

pub returns-in-Nack-clause-touched : goal.returns-in-Nack-clause-touched
returns-in-Nack-clause-touched g c = λ b s.
    if_none c.nack.result b (acted b c.args.act.now) (nacked b _) (ap (acted b) c.in-Nack.is) c.nack.ensures.touched (nacked-touches b _)

pub returns-in-Poll-clause-touched : goal.returns-in-Poll-clause-touched
returns-in-Poll-clause-touched g c = λ b s.
    touches-none b c.poll.result.touched (acted b c.args.act.now) (polled_by b) c.poll.ensures.touched (ap (acted b) c.in-Poll.is) (refl, refl)

pub returns-in-Read-clause-touched : goal.returns-in-Read-clause-touched
returns-in-Read-clause-touched g c = λ b s.
    touches-none b c.read.result.touched (acted b c.args.act.now) (read_by b _ _) c.read.ensures.touched (ap (acted b) c.in-Read.is) (read-touches b _ _)

pub returns-in-Peek-clause-touched : goal.returns-in-Peek-clause-touched
returns-in-Peek-clause-touched g c = λ b s.
    if_none c.peek.result b (acted b c.args.act.now) (peeked b (register_at b c.in-Peek.at)) (ap (acted b) c.in-Peek.is)
    c.peek.ensures.touched (peeked-touches b (register_at b c.in-Peek.at))

pub returns-in-Irq-clause-touched : goal.returns-in-Irq-clause-touched
returns-in-Irq-clause-touched g c = λ b s.
    touches-none b c.irq.result.touched (acted b c.args.act.now) (irq_by b) c.irq.ensures.touched (ap (acted b) c.in-Irq.is) (refl, refl)

pub returns-in-Shutdown-clause-touched : goal.returns-in-Shutdown-clause-touched
returns-in-Shutdown-clause-touched g c = λ b s.
    touches-none b c.shut_down.result.touched (acted b c.args.act.now) (shut_down b) c.shut_down.ensures.touched (ap (acted b) c.in-Shutdown.is) (refl, refl)
