-- The properties of a type that is there, and one of devices.
use Rattle.std.proofs.Common.{◌∙◌, ap, sym}
use Rattle.serde_json.specs.Data.{Data}
use Rattle.qo_model.specs.Types.{type_named}
use Rattle.qo_commands.specs.Commands.{returned}
use Rattle.qo_commands.proofs.ListingLemmas.{device-listed, device-none, device-other}
use Rattle.serde_json.specs.Written.{has_float}
use Rattle.qo_commands.specs.Commands.{adding_properties}
use Rattle.qo_commands.proofs.CommandLemmas.{rows_no_float}
use Rattle.qo_commands.proofs.types.list_properties.Goals as goal

pub returned_value-requires : goal.returned_value-requires
returned_value-requires c = ap has_float c.in_ok-listing.ensures ∙ rows_no_float (adding_properties c.in-Some.t)

pub returns-in_default : goal.returns-in_default
returns-in_default c = λ b. c.refused.ensures.done b ∙ device-none b (type_named c.args.typename.now) (sym c.in_default.is ∙ c.find.ensures)

pub returns-then-not-derives_from : goal.returns-then-not-derives_from
returns-then-not-derives_from c = λ b.
    c.refused-then-not-derives_from.ensures.done b
    ∙ device-other b (type_named c.args.typename.now) c.in-Some.t (sym c.in-Some.is ∙ c.find.ensures) (sym c.derives_from.ensures ∙ c.if-not-derives_from.true)

pub returns : goal.returns
returns c = λ b.
    c.returned_value.ensures b ∙ ap (λ (d : Data). returned b d) c.in_ok-listing.ensures
    ∙ device-listed b (type_named c.args.typename.now) c.in-Some.t (sym c.in-Some.is ∙ c.find.ensures) (sym c.derives_from.ensures ∙ c.if-not-derives_from.false)
