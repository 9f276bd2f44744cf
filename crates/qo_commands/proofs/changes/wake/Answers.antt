-- The machine has woken up.
use Rattle.std.proofs.Common.{refl, None}
use Rattle.qo_model.specs.Hotplug.{woken}
use Rattle.qo_commands.specs.Commands.{altered}
use Rattle.qo_commands.proofs.ChangeLemmas.{changed-ok}
use Rattle.qo_requests.specs.declared.calls.Alteration.TheVariants.{XWakeup}
use Rattle.qo_requests.specs.declared.calls.Change.TheVariants.{Alter}
use Rattle.qo_commands.specs.declared.touched.Touched.TheVariants.{Registers}
use Rattle.qo_commands.proofs.TouchedLemmas.{done-touches, woken-touches}
use Rattle.qo_commands.proofs.changes.wake.Goals as goal

pub returns-clause-came : goal.returns-clause-came
unfolding altered
returns-clause-came g c = λ b s.
    changed-ok (record { refusal = None; board = woken b }) c.done_by.result c.wakeup.new.self refl (c.wakeup.ensures b s) c.done_by.ensures.done

pub returns-clause-touched : goal.returns-clause-touched
returns-clause-touched g c = λ b s.
    done-touches b (Alter XWakeup) c.done_by.result c.wakeup.new.self Registers (returns-clause-came g c b s) c.done_by.ensures.touched (woken-touches b)
