-- A write that is done touches registers, and an absent register nothing.
use Rattle.std.proofs.Common.{ap, Some}
use Rattle.qo_guest.specs.declared.answers.GuestAnswer.TheVariants.{NoRegister}
use Rattle.qo_commands.specs.Hearing.{if_written, written_by}
use Rattle.qo_commands.specs.declared.touched.Touched.TheVariants.{Registers}
use Rattle.qo_commands.proofs.DeviceFrameLemmas.{framed-lines}
use Rattle.qo_commands.proofs.FrameLemmas.{written-frame}
use Rattle.qo_commands.proofs.TouchedLemmas.{touches-answered, touches-fine}
use Rattle.qo_commands.proofs.hearing.write_register.Goals as goal

pub returns-in-Some-clause-touched : goal.returns-in-Some-clause-touched
returns-in-Some-clause-touched g c = λ b s.
    touches-fine b (written_by b c.args.reg c.args.value (Some c.args.dev.birth)).board Registers c.fine.result c.fine.ensures
    (framed-lines b (written_by b c.args.reg c.args.value (Some c.args.dev.birth)).board (written-frame b c.args.reg c.args.value (Some c.args.dev.birth)))

pub returns-in-None-clause-touched : goal.returns-in-None-clause-touched
returns-in-None-clause-touched g c = λ b s.
    touches-answered b (written_by b c.args.reg c.args.value (Some c.args.dev.birth)) NoRegister c.answered.result
    (ap (if_written b) (c.in-None.ensures.written b s)) c.answered.ensures
