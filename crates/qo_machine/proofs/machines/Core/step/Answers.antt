-- Where memory ran out a front of the input's items was served.
use Rattle.std.proofs.Common.{◌∙◌}
use Rattle.qo_machine.proofs.ListeningLemmas.{step-unheard}
use Rattle.qo_machine.proofs.MemoryLemmas.{breaks_before, breaks_kept}
use Rattle.qo_machine.proofs.MachineLemmas.{seen_board}
use Rattle.qo_machine.proofs.machines.Core.step.Goals as goal

pub returns-then-self-clause-breaks : goal.returns-then-self-clause-breaks
returns-then-self-clause-breaks g c = λ s here. breaks_before s c.args.input.now c.args.self.now c.finish.new.self c.finish.ensures.board here

pub returns-in-Err-clause-breaks : goal.returns-in-Err-clause-breaks
returns-in-Err-clause-breaks g c = λ s here.
    breaks_kept s c.args.input.now c.step_counting.new.self c.finish-in-Err.new.self (c.finish-in-Err.ensures.board ∙ seen_board c.self-in-Err.view_is)
    (c.in-Err.ensures.breaks s here)

-- what listeners heard

pub returns-then-self-clause-heard : goal.returns-then-self-clause-heard
returns-then-self-clause-heard g c = λ s here. step-unheard s c.args.input.now _
