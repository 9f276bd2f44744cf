-- What a command comes to has a text.
use Rattle.std.proofs.Common.{ap, ◌∙◌, option_map}
use Rattle.qo_commands.proofs.CommandLemmas.{no_float}
use Rattle.qo_commands.specs.Commands.{Done}
use Rattle.qo_machine.proofs.MachineLemmas.{seen_board, stands_in}
use Rattle.qo_machine.specs.Machine.{reply}
use Rattle.qo_machine.proofs.machines.Core.answer.Goals as goal

pub returns-clause-came : goal.returns-clause-came
returns-clause-came g c = λ b stands.
    let here = stands_in b c.self.inside.board c.args.self.now (seen_board c.self.view_is) stands in
    let does = c.in_ok-done.ensures b here in
    record {
      stands = stands;
      events = ap (λ (d : Done). d.events) does;
      ends = ap (λ (d : Done). d.ends) does;
      replied =
          c.in_ok-text.ensures b here (no_float b c.in_ok-done.done.result)
          ∙ ap (λ (d : Done). reply (option_map (λ id. id.now) c.args.id) d.result) does;
    }
