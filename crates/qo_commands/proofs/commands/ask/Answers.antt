-- Each command tells what is defined.
use Rattle.std.proofs.Common.{◌∙◌, ap, sym, rules, Bool}
use Rattle.serde_json.specs.Data.{Data}
use Rattle.qo_commands.specs.Commands.{queried, returned, status_data, types_of}
use Rattle.std.specs.Option.{option_map_or}
use Rattle.std.specs.Prelude.{codes}
use Rattle.serde_json.specs.Written.{has_float}
use Rattle.qo_commands.proofs.CommandLemmas.{types_no_float}
use Rattle.qo_commands.proofs.commands.ask.Goals as goal

pub returned_value-requires : goal.returned_value-requires
returned_value-requires g c =
    ap has_float c.in_ok-types-in-QomListTypes.ensures
    ∙ types_no_float (types_of (option_map_or (λ name. name.now) c.as_ref.result (codes "object")) c.unwrap_or.result)

pub returns-in_ok-types-in-QomListTypes : goal.returns-in_ok-types-in-QomListTypes
unfolding queried
returns-in_ok-types-in-QomListTypes g c = λ b s.
    c.returned_value.ensures b ∙ ap (λ (d : Data). returned b d) c.in_ok-types-in-QomListTypes.ensures ∙ search rules

pub returns-in_ok-version-in-QueryVersion : goal.returns-in_ok-version-in-QueryVersion
unfolding queried
returns-in_ok-version-in-QueryVersion g c = λ b s.
    c.returned_value-in-QueryVersion.ensures b ∙ ap (λ (d : Data). returned b d) c.in_ok-version-in-QueryVersion.ensures
    ∙ ap (queried b) (sym c.in-QueryVersion.is)

pub returns-in_ok-commands-in-QueryCommands : goal.returns-in_ok-commands-in-QueryCommands
unfolding queried
returns-in_ok-commands-in-QueryCommands g c = λ b s.
    c.returned_value-in-QueryCommands.ensures b ∙ ap (λ (d : Data). returned b d) c.in_ok-commands-in-QueryCommands.ensures
    ∙ ap (queried b) (sym c.in-QueryCommands.is)

pub returns-in-QueryStatus : goal.returns-in-QueryStatus
unfolding queried
returns-in-QueryStatus g c = λ b s.
    c.returned.ensures.done b ∙ ap (λ (running : Bool). returned b (status_data running)) (c.running.ensures b s) ∙ ap (queried b) (sym c.in-QueryStatus.is)
