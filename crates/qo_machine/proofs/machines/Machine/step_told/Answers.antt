-- After the step no event waits, so the board is sound as between two inputs; and its lines are right where memory lasts.
use Rattle.std.proofs.Common.{subst, sym}
use Rattle.std.proofs.lemmas.Result.{IfOk-weaker}
use Rattle.qo_machine.specs.Machine.{IsIn}
use Rattle.qo_machine.proofs.SoundnessLemmas.{sound_between, stepped}
use Rattle.qo_machine.proofs.WiredLemmas.{wired_unless}
use Rattle.qo_machine.proofs.machines.Machine.step_told.Goals as goal

pub invariant_of-self : goal.invariant_of-self
invariant_of-self g c = (
  stepped c.self.inside.core c.step-done.new.self c.args.input.now c.step-done.result c.reveal_board.ensures c.self.invariant.0
      (λ s here. IfOk-weaker c.step-done.result _ _ (λ outs a. (a.0, a.1, a.2)) (c.step-done.ensures.answered s here))
      c.step-done.ensures.breaks,
  wired_unless c.step-done.result c.step-done.new.self c.step-done.ensures.wired c.step-done.ensures.spends,
)

pub returns-clause-sound : goal.returns-clause-sound
returns-clause-sound g c = λ s here.
    let settled =
    stepped c.self.inside.core c.step-done.new.self c.args.input.now c.step-done.result c.reveal_board.ensures c.self.invariant.0
    (λ s here. IfOk-weaker c.step-done.result _ _ (λ outs a. (a.0, a.1, a.2)) (c.step-done.ensures.answered s here))
    c.step-done.ensures.breaks in
    sound_between c.step-done.new.self c.reveal_board-2.ensures settled s here

-- what listeners heard

pub returns-clause-heard : goal.returns-clause-heard
returns-clause-heard g c = λ s here. c.step-done.ensures.heard s (subst (IsIn s) (sym c.self.view_is) here)
