-- A command is done as it is defined, or refused for want of memory.
use Rattle.std.proofs.Common.{refl}
use Rattle.qo_machine.proofs.MemoryLemmas.{left_served}
use Rattle.qo_machine.proofs.MachineLemmas.{left_done, served_command, served_want}
use Rattle.qo_heap.proofs.HeapLemmas.{on-err}
use Rattle.qo_machine.proofs.WiredLemmas.{left_kept, left_told}
use Rattle.qo_machine.proofs.serving.reply_to_command.Goals as goal

pub returns-in_ok-sent-in-Ok-clause-served : goal.returns-in_ok-sent-in-Ok-clause-served
returns-in_ok-sent-in-Ok-clause-served g c =
    let p = c.in_ok-sent-in-Ok.ensures.sent in (
      p.0,
      p.1,
      p.2,
      served_command c.args.outbox.now.at c.args.session c.args.machine.now c.perform.new.self c.send_reply-sent.new.machine c.conclude.new.self
          c.args.command.now _
          c.in-Ok.reply p.0 c.in-Ok.ensures.came c.in-Ok.ensures.rest p.3 c.send_reply-sent.ensures.board c.send_reply-sent.ensures.rest
          c.conclude.ensures.state c.conclude.ensures.board,
    )

pub returns-in_err-sent-in-Ok-clause-left : goal.returns-in_err-sent-in-Ok-clause-left
returns-in_err-sent-in-Ok-clause-left g c =
    on-err _
    (left_done c.args.outbox.now.at c.args.session c.args.machine.now c.perform.new.self c.send_reply-sent.new.machine c.conclude.new.self c.args.command.now _
    c.in-Ok.reply c.in-Ok.ensures.came c.in-Ok.ensures.rest c.send_reply-sent.ensures.board c.send_reply-sent.ensures.rest
    c.conclude.ensures.state c.conclude.ensures.board)

pub returns-in_ok-send_memory_error-in-Err-clause-served : goal.returns-in_ok-send_memory_error-in-Err-clause-served
returns-in_ok-send_memory_error-in-Err-clause-served g c = (
  _,
  c.in_ok-send_memory_error-in-Err.ensures.told,
  (c.requires.session, tt),
  served_want c.args.outbox.now.at c.args.session c.args.machine.now c.perform.new.self c.args.command.now _ _ refl c.in-Err.ensures.kept
      c.in-Err.ensures.rest,
)

pub returns-in_err-send_memory_error-in-Err-clause-left : goal.returns-in_err-send_memory_error-in-Err-clause-left
returns-in_err-send_memory_error-in-Err-clause-left g c =
    on-err c.from_residual-in_err-send_memory_error-in-Err.result
    (λ s here.
    left_served c.args.outbox.now.at c.args.session s c.args.command.now _ _ c.perform.new.self
    (served_want c.args.outbox.now.at c.args.session c.args.machine.now c.perform.new.self c.args.command.now _ _ refl c.in-Err.ensures.kept
    c.in-Err.ensures.rest s here))

-- the events that wait are told, and what is left of the lines stays

pub returns-in_ok-sent-in-Ok-clause-touched : goal.returns-in_ok-sent-in-Ok-clause-touched
returns-in_ok-sent-in-Ok-clause-touched g c =
    left_kept c.in-Ok.reply.touched c.send_reply-sent.new.machine c.conclude.new.self c.conclude.ensures.board c.conclude.ensures.wires
    (left_told c.in-Ok.reply.touched c.perform.new.self c.send_reply-sent.new.machine c.send_reply-sent.ensures.board c.send_reply-sent.ensures.wires
    c.in-Ok.ensures.left)

pub returns-in_ok-send_memory_error-in-Err-clause-touched : goal.returns-in_ok-send_memory_error-in-Err-clause-touched
returns-in_ok-send_memory_error-in-Err-clause-touched g c = c.in-Err.ensures.same
