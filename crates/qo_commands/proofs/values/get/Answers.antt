-- What the board reads is told, or what refuses it.
use Rattle.std.proofs.Common.{◌≡◌, Err, ◌∙◌, ap, sym}
use Rattle.serde_json.specs.Data.{Data}
use Rattle.qo_values.specs.PlainValues.{data_of}
use Rattle.qo_model.specs.Access.{read}
use Rattle.qo_commands.specs.Commands.{answered, returned}
use Rattle.qo_commands.proofs.values.get.Goals as goal

pub returns-in_ok-value-in-Ok : goal.returns-in_ok-value-in-Ok
returns-in_ok-value-in-Ok g c = λ b s.
    c.returned_value.ensures b ∙ ap (λ (d : Data). returned b d) c.in_ok-value-in-Ok.ensures ∙ sym (ap (answered b data_of) (c.in-Ok.ensures b s))

pub returns-in-Err-Refused : goal.returns-in-Err-Refused
returns-in-Err-Refused g c = λ b s.
    let refused : read b c.args.path.now c.args.name.now ≡ Err c.in-Err-Refused.code = rw c.in-Err-Refused.field-0-is at (c.in-Err-Refused.ensures b s) in
    (rw c.in-Err-Refused.field-0-is at (c.refused.ensures.done b)) ∙ sym (ap (answered b data_of) refused)
