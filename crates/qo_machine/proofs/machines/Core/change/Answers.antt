-- What a command that changes the board does, and the text of its reply.
use Rattle.std.proofs.Common.{ap, ◌∙◌, option_map}
use Rattle.qo_commands.proofs.CommandLemmas.{empty_written, no_float}
use Rattle.qo_commands.specs.Commands.{Done, empty, made}
use Rattle.qo_machine.proofs.MachineLemmas.{seen_board, stands_in}
use Rattle.std.proofs.lemmas.Result.{IfOk-weaker}
use Rattle.qo_machine.specs.Machine.{reply}
use Rattle.qo_machine.proofs.machines.Core.change.Goals as goal

pub changed_text-text-requires : goal.changed_text-text-requires
changed_text-text-requires g c = c.in_ok-empty.ensures empty empty_written

pub returns-clause-came : goal.returns-clause-came
returns-clause-came g c = λ b stands.
    let did = c.in_ok-done.ensures.came b stands in
    let here = stands_in _ c.self.inside.board c.apply.new.self (seen_board c.self.view_is) did.0 in
    record {
      stands = did.0;
      events = ap (λ (d : Done). d.events) did.1;
      ends = ap (λ (d : Done). d.ends) did.1;
      replied =
          IfOk-weaker c.changed_text-text.result _ _
          (λ text written.
          written (no_float (made b c.args.change.now).board c.in_ok-done.done.result)
          ∙ ap (λ (d : Done). reply (option_map (λ id. id.now) c.args.id) d.result) did.1) (c.changed_text-text.ensures _ here);
    }
