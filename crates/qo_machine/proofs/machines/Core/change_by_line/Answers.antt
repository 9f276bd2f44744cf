-- What the command of a line does, and the text of its reply.
use Rattle.std.proofs.Common.{[], ap, ◌∙◌, option_map, Ok}
use Rattle.std.proofs.lemmas.Result.{IfOk-weaker}
use Rattle.serde_json.specs.Data.{string}
use Rattle.qo_commands.proofs.CommandLemmas.{nothing_told_written}
use Rattle.qo_commands.specs.Commands.{Done, line_answer, made}
use Rattle.qo_machine.specs.Machine.{reply}
use Rattle.qo_machine.proofs.machines.Core.change_by_line.Goals as goal

pub line_text-text-requires : goal.line_text-text-requires
line_text-text-requires g c = c.in_ok-told.ensures (string []) nothing_told_written

pub returns-clause-came : goal.returns-clause-came
returns-clause-came g c = λ b stands.
    let did = c.in_ok-done.ensures.came b stands in
    record {
      stands = did.0;
      events = ap (λ (d : Done). d.events) did.1;
      ends = ap (λ (d : Done). d.ends) did.1;
      replied =
          IfOk-weaker c.line_text-text.result _ _
          (λ text written. written ∙ ap (λ (d : Done). reply (option_map (λ id. id.now) c.args.id) (Ok (string (line_answer d.result)))) did.1)
          (c.line_text-text.ensures (made b c.args.change.now).board);
    }
