-- The run ends where a command ends it.
use Rattle.std.proofs.Common.{Bool, ◌∙◌, ap, sym}
use Rattle.qo_machine.specs.Machine.{after_command, state_with}
use Rattle.qo_machine.proofs.machines.Core.conclude.Goals as goal

pub returns-then-ends-clause-state : goal.returns-then-ends-clause-state
returns-then-ends-clause-state c = λ b.
    c.finish.ensures.done b ∙ ap (λ (e : Bool). after_command e (state_with b c.args.self.now)) (sym c.if-ends.true)
