-- What the description says is told.
use Rattle.std.proofs.Common.{◌∙◌, ap}
use Rattle.serde_json.specs.Data.{Data}
use Rattle.serde_json.specs.Written.{has_float}
use Rattle.qo_save.specs.Described.{described}
use Rattle.qo_commands.specs.Commands.{returned}
use Rattle.qo_commands.proofs.CommandLemmas.{described_no_float}
use Rattle.qo_commands.proofs.descriptions.query_description.Goals as goal

pub returned_value-requires : goal.returned_value-requires
returned_value-requires g c =
    let good = c.reveal_board.ensures.stands in
    ap has_float (c.in_ok-value.ensures good.0 good.1) ∙ described_no_float (described good.0)

pub returns : goal.returns
returns g c = λ b s. c.returned_value.ensures b ∙ ap (λ (d : Data). returned b d) (c.in_ok-value.ensures b s)
