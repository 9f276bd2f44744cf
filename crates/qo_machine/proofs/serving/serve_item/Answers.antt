-- An item is served by what it comes to.
use Rattle.std.proofs.Common.{ℕ, List, [], ◌∷◌, refl, sym, ap, subst, ◌∙◌, append-nil, Option}
use Rattle.qo_commands.proofs.CommandLemmas.{empty_written}
use Rattle.qo_commands.specs.Commands.{empty}
use Rattle.qo_machine.proofs.MemoryLemmas.{front_answer, front_command, front_negotiation, front_unheeded}
use Rattle.qo_machine.proofs.MachineLemmas.{serves_answer, serves_command, serves_negotiation, serves_over_by}
use Rattle.qo_heap.proofs.HeapLemmas.{on-err}
use Rattle.qo_machine.specs.Machine.{by_item, state_with}
use Rattle.qo_machine.specs.Serving.{CommandLeft, CommandServed, moved}
use Rattle.qo_machine.proofs.serving.serve_item.Goals as goal

pub returns-then-ended-clause-served : goal.returns-then-ended-clause-served
returns-then-ended-clause-served g c = (
  [],
  sym (append-nil _),
  tt,
  serves_over_by (by_item c.args.outbox.now.at c.args.session) c.args.machine.now c.args.machine.now c.args.item.now
      (sym c.if-ended.ensures) refl,
)

pub returns-in_ok-push-in-Answer-clause-served : goal.returns-in_ok-push-in-Answer-clause-served
returns-in_ok-push-in-Answer-clause-served g c = (
  _,
  c.in_ok-push-in-Answer.ensures.sent,
  (c.requires.session, tt),
  serves_answer c.args.outbox.now.at c.args.session c.args.machine.now c.interpret.new.self c.args.item.now c.in-Answer.code c.in-Answer.id _
      (sym c.if-ended.ensures) (λ b. sym c.in-Answer.is ∙ c.in_ok-code.ensures.act b)
      (λ b. c.in_ok-code.ensures.state b ∙ ap (moved (state_with b c.args.machine.now) c.args.session) c.in-Answer.is) c.interpret.ensures.board
      (rw c.as_ref.ensures.value at c.in_ok-text-in-Answer.ensures),
)

pub returns-in_ok-push-in-Negotiated-clause-served : goal.returns-in_ok-push-in-Negotiated-clause-served
returns-in_ok-push-in-Negotiated-clause-served g c = (
  _,
  c.in_ok-push-in-Negotiated.ensures.sent,
  (c.requires.session, tt),
  serves_negotiation c.args.outbox.now.at c.args.session c.args.machine.now c.interpret.new.self c.args.item.now c.in-Negotiated.id _ (sym c.if-ended.ensures)
      (λ b. sym c.in-Negotiated.is ∙ c.in_ok-code.ensures.act b)
      (λ b. c.in_ok-code.ensures.state b ∙ ap (moved (state_with b c.args.machine.now) c.args.session) c.in-Negotiated.is) c.interpret.ensures.board
      (rw c.as_ref-in-Negotiated.ensures.value at (c.in_ok-text-in-Negotiated.ensures empty empty_written)),
)

pub returns-in_ok-serve_command-in-Do-clause-served : goal.returns-in_ok-serve_command-in-Do-clause-served
returns-in_ok-serve_command-in-Do-clause-served g c =
    let served = c.in_ok-serve_command-in-Do.ensures.served in (
      served.0,
      served.1,
      served.2,
      serves_command c.args.outbox.now.at c.args.session c.args.machine.now c.interpret.new.self c.serve_command.new.machine c.args.item.now c.in-Do.command
          c.in-Do.id served.0 (sym c.if-ended.ensures) (λ b. sym c.in-Do.is ∙ c.in_ok-code.ensures.act b)
          (λ b. c.in_ok-code.ensures.state b ∙ ap (moved (state_with b c.args.machine.now) c.args.session) c.in-Do.is) c.interpret.ensures.board
          (λ s here. subst (λ (id : Option (List ℕ)). CommandServed c.args.outbox.now.at c.args.session s c.in-Do.command id served.0
          c.serve_command.new.machine) c.as_ref-in-Do.ensures.value (served.3 s here)),
    )

-- Where memory ran out.

pub returns-in_err-code-clause-left : goal.returns-in_err-code-clause-left
returns-in_err-code-clause-left g c =
    on-err c.from_residual.result (front_unheeded c.args.outbox.now.at c.args.session c.args.machine.now c.interpret.new.self (c.args.item.now ∷ [])
    c.in_err-code.ensures.kept c.interpret.ensures.board)

pub returns-in_err-text-in-Answer-clause-left : goal.returns-in_err-text-in-Answer-clause-left
returns-in_err-text-in-Answer-clause-left g c =
    on-err c.from_residual-in_err-text-in-Answer.result
    (front_answer c.args.outbox.now.at c.args.session c.args.machine.now c.interpret.new.self (c.args.item.now ∷ []) c.in-Answer.code c.in-Answer.id
    (λ b. c.in_ok-code.ensures.state b ∙ ap (moved (state_with b c.args.machine.now) c.args.session) c.in-Answer.is) c.interpret.ensures.board)

pub returns-in_err-push-in-Answer-clause-left : goal.returns-in_err-push-in-Answer-clause-left
returns-in_err-push-in-Answer-clause-left g c =
    on-err c.from_residual-in_err-push-in-Answer.result
    (front_answer c.args.outbox.now.at c.args.session c.args.machine.now c.interpret.new.self (c.args.item.now ∷ []) c.in-Answer.code c.in-Answer.id
    (λ b. c.in_ok-code.ensures.state b ∙ ap (moved (state_with b c.args.machine.now) c.args.session) c.in-Answer.is) c.interpret.ensures.board)

pub returns-in_err-text-in-Negotiated-clause-left : goal.returns-in_err-text-in-Negotiated-clause-left
returns-in_err-text-in-Negotiated-clause-left g c =
    on-err c.from_residual-in_err-text-in-Negotiated.result
    (front_negotiation c.args.outbox.now.at c.args.session c.args.machine.now c.interpret.new.self c.args.item.now c.in-Negotiated.id (sym c.if-ended.ensures)
    (λ b. sym c.in-Negotiated.is ∙ c.in_ok-code.ensures.act b)
    (λ b. c.in_ok-code.ensures.state b ∙ ap (moved (state_with b c.args.machine.now) c.args.session) c.in-Negotiated.is) c.interpret.ensures.board)

pub returns-in_err-push-in-Negotiated-clause-left : goal.returns-in_err-push-in-Negotiated-clause-left
returns-in_err-push-in-Negotiated-clause-left g c =
    on-err c.from_residual-in_err-push-in-Negotiated.result
    (front_negotiation c.args.outbox.now.at c.args.session c.args.machine.now c.interpret.new.self c.args.item.now c.in-Negotiated.id (sym c.if-ended.ensures)
    (λ b. sym c.in-Negotiated.is ∙ c.in_ok-code.ensures.act b)
    (λ b. c.in_ok-code.ensures.state b ∙ ap (moved (state_with b c.args.machine.now) c.args.session) c.in-Negotiated.is) c.interpret.ensures.board)

pub returns-in_err-serve_command-in-Do-clause-left : goal.returns-in_err-serve_command-in-Do-clause-left
returns-in_err-serve_command-in-Do-clause-left g c =
    on-err c.from_residual-in_err-serve_command-in-Do.result
    (front_command c.args.outbox.now.at c.args.session c.args.machine.now c.interpret.new.self c.serve_command.new.machine c.args.item.now c.in-Do.command
    c.in-Do.id (sym c.if-ended.ensures) (λ b. sym c.in-Do.is ∙ c.in_ok-code.ensures.act b)
    (λ b. c.in_ok-code.ensures.state b ∙ ap (moved (state_with b c.args.machine.now) c.args.session) c.in-Do.is) c.interpret.ensures.board
    (λ s here. subst (λ (id : Option (List ℕ)). CommandLeft c.args.outbox.now.at c.args.session s c.in-Do.command id c.serve_command.new.machine)
    c.as_ref-in-Do.ensures.value (c.in_err-serve_command-in-Do.ensures.left s here)))
