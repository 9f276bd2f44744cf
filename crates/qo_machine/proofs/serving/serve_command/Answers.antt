-- What the command came to stays where the lines are made anew.
use Rattle.std.proofs.lemmas.Result.{on_ok_weaker}
use Rattle.qo_heap.proofs.HeapLemmas.{on-err}
use Rattle.qo_machine.proofs.MemoryLemmas.{left_served}
use Rattle.qo_machine.proofs.WiredLemmas.{settled_command}
use Rattle.qo_machine.proofs.serving.serve_command.Goals as goal

pub returns-clause-served : goal.returns-clause-served
returns-clause-served g c =
    let served = c.in_ok-touched.ensures.served in
    on_ok_weaker c.settle.result
    (λ wired. (
      served.0,
      served.1,
      served.2,
      λ s here. settled_command c.args.outbox.now.at c.args.session s c.args.command.now _ served.0 c.reply_to_command.new.machine c.settle.new.self
          c.settle.ensures.board c.settle.ensures.rest (served.3 s here),
    )) c.settle.ensures.wired

pub returns-clause-left : goal.returns-clause-left
returns-clause-left g c =
    let served = c.in_ok-touched.ensures.served in
    on-err c.settle.result
    (λ s here. left_served c.args.outbox.now.at c.args.session s c.args.command.now _ served.0 c.settle.new.self
    (settled_command c.args.outbox.now.at c.args.session s c.args.command.now _ served.0 c.reply_to_command.new.machine c.settle.new.self
    c.settle.ensures.board c.settle.ensures.rest (served.3 s here)))
