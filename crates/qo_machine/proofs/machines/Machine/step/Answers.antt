-- Nobody listens.
use Rattle.std.proofs.Common.{sym, subst}
use Rattle.std.proofs.lemmas.Result.{IfOk-weaker}
use Rattle.qo_listen.specs.Ears.{AllOpen}
use Rattle.qo_machine.proofs.machines.Machine.step.Goals as goal

pub step_told-done-requires : goal.step_told-done-requires
step_told-done-requires c = record { listening = subst AllOpen (sym c.new-nobody.ensures) tt }

pub returns-clause-answered : goal.returns-clause-answered
returns-clause-answered c = λ s here.
    IfOk-weaker c.step_told-done.result _ _ (λ outs a. (a.0, a.1, a.2)) (c.step_told-done.ensures.answered s here)
