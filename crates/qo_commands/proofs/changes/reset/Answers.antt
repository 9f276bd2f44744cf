-- The whole board is reset.
use Rattle.std.proofs.Common.{false, refl, Ok, Some}
use Rattle.qo_commands.specs.declared.commands.ReplyBody.TheVariants.{Empty}
use Rattle.qo_replies.specs.declared.events.Event.TheVariants.{Reset}
use Rattle.qo_commands.specs.Commands.{altered}
use Rattle.qo_commands.proofs.ChangeLemmas.{reset-came}
use Rattle.qo_commands.specs.declared.touched.Touched.TheVariants.{Devices}
use Rattle.qo_commands.proofs.changes.reset.Goals as goal

pub returns-clause-came : goal.returns-clause-came
unfolding altered
returns-clause-came g c = λ b s.
    reset-came b (record { result = Ok Empty; event = Some (Reset false); ends = false; touched = Devices }) c.system_reset.new.self (c.system_reset.ensures b s) (λ x. refl)

pub returns-clause-touched : goal.returns-clause-touched
returns-clause-touched g c = λ b s. tt
