-- A line is heard, its events are told, and it is answered.
use Rattle.std.proofs.Common.{◌≡◌, ℕ, List, [], refl, sym, ap, subst, ◌∙◌, append-nil}
use Rattle.qo_commands.specs.Hearing.{heard}
use Rattle.qo_commands.specs.Lines.{without_return}
use Rattle.qo_machine.proofs.GuestLemmas.{line_left, line_refused, line_refused_left, line_served}
use Rattle.qo_machine.proofs.MachineLemmas.{serves_over_by}
use Rattle.qo_machine.proofs.WiredLemmas.{left_kept, left_told, wired_kept}
use Rattle.qo_heap.proofs.HeapLemmas.{on-err}
use Rattle.qo_machine.specs.Machine.{by_line}
use Rattle.qo_machine.specs.Serving.{CameTo}
use Rattle.qo_machine.proofs.serving.reply_to_line.Goals as goal

pub returns-then-ended-clause-served : goal.returns-then-ended-clause-served
returns-then-ended-clause-served g c = (
  [],
  sym (append-nil _),
  tt,
  serves_over_by (by_line c.args.outbox.now.at) c.args.machine.now c.args.machine.now c.args.line.now (sym c.if-ended.ensures)
      refl,
)

pub returns-in_ok-sent-in-Ok-clause-served : goal.returns-in_ok-sent-in-Ok-clause-served
returns-in_ok-sent-in-Ok-clause-served g c =
    let p = c.in_ok-sent-in-Ok.ensures.sent in (
      p.0,
      p.1,
      p.2,
      line_served c.args.outbox.now.at c.args.machine.now c.hear.new.self c.send_reply-sent.new.machine c.conclude.new.self c.args.line.now
          c.in-Ok.reply p.0 (sym c.if-ended.ensures)
          (λ b s. subst (λ (line : List ℕ). CameTo (heard b line) c.in-Ok.reply c.hear.new.self.board)
          (c.without_return.ensures ∙ ap without_return c.as_slice.ensures) (c.in-Ok.ensures.came b s))
          c.in-Ok.ensures.rest p.3 c.send_reply-sent.ensures.board c.send_reply-sent.ensures.rest c.conclude.ensures.state c.conclude.ensures.board,
    )

pub returns-in_err-sent-in-Ok-clause-left : goal.returns-in_err-sent-in-Ok-clause-left
returns-in_err-sent-in-Ok-clause-left g c =
    on-err _
    (line_left c.args.outbox.now.at c.args.machine.now c.hear.new.self c.send_reply-sent.new.machine c.conclude.new.self c.args.line.now c.in-Ok.reply
    (sym c.if-ended.ensures)
    (λ b s. subst (λ (line : List ℕ). CameTo (heard b line) c.in-Ok.reply c.hear.new.self.board)
    (c.without_return.ensures ∙ ap without_return c.as_slice.ensures) (c.in-Ok.ensures.came b s))
    c.in-Ok.ensures.rest c.send_reply-sent.ensures.board c.send_reply-sent.ensures.rest c.conclude.ensures.state c.conclude.ensures.board)

pub returns-in_ok-send_guest_memory_error-in-Err-clause-served : goal.returns-in_ok-send_guest_memory_error-in-Err-clause-served
returns-in_ok-send_guest_memory_error-in-Err-clause-served g c = (
  _,
  c.in_ok-send_guest_memory_error-in-Err.ensures.told,
  (tt, tt),
  line_refused c.args.outbox.now.at c.args.machine.now c.hear.new.self c.args.line.now _ (sym c.if-ended.ensures) refl c.in-Err.ensures.kept
      c.in-Err.ensures.rest,
)

pub returns-in_err-send_guest_memory_error-in-Err-clause-left : goal.returns-in_err-send_guest_memory_error-in-Err-clause-left
returns-in_err-send_guest_memory_error-in-Err-clause-left g c =
    on-err _
    (line_refused_left c.args.outbox.now.at c.args.machine.now c.hear.new.self c.args.line.now (sym c.if-ended.ensures) c.in-Err.ensures.kept
    c.in-Err.ensures.rest)

-- the events that wait are told, and what is left of the lines stays

pub returns-then-ended-clause-touched : goal.returns-then-ended-clause-touched
returns-then-ended-clause-touched g c = c.requires

pub returns-in_ok-sent-in-Ok-clause-touched : goal.returns-in_ok-sent-in-Ok-clause-touched
returns-in_ok-sent-in-Ok-clause-touched g c =
    left_kept c.in-Ok.reply.touched c.send_reply-sent.new.machine c.conclude.new.self c.conclude.ensures.board c.conclude.ensures.wires
    (left_told c.in-Ok.reply.touched c.hear.new.self c.send_reply-sent.new.machine c.send_reply-sent.ensures.board c.send_reply-sent.ensures.wires
    c.in-Ok.ensures.left)

pub returns-in_ok-send_guest_memory_error-in-Err-clause-touched : goal.returns-in_ok-send_guest_memory_error-in-Err-clause-touched
returns-in_ok-send_guest_memory_error-in-Err-clause-touched g c = wired_kept c.args.machine.now c.hear.new.self c.in-Err.ensures.kept c.in-Err.ensures.wires c.requires
