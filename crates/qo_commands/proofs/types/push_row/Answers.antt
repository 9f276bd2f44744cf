use Rattle.std.proofs.Common.{◌∙◌, ◌++◌, ◌∷◌, [], ap, sym, map, List, ℕ}
use Rattle.qo_commands.specs.Commands.{property_data}
use Rattle.std.proofs.lemmas.List.{map-append}
use Rattle.serde_json.specs.Data.{Data}
use Rattle.serde_json.specs.View.{view}
use Rattle.qo_model.specs.RowNames.{property_name}
use Rattle.qo_commands.proofs.ListingLemmas.{row-pushed}
use Rattle.qo_commands.proofs.types.push_row.Goals as goal

pub returns : goal.returns
returns c =
    row-pushed c.args.row.now _ _ _ (sym c.is_for_adding.ensures ∙ c.if-not-is_for_adding.false) c.in_ok-text.ensures
    (ap (λ l. map view l) c.in_ok-push.ensures.items ∙ map-append view c.args.values.now.items (c.in_ok-value.value ∷ [])
    ∙ ap (λ (d : Data). map view c.args.values.now.items ++ d ∷ [])
    (c.in_ok-value.ensures ∙ ap (λ (name : List ℕ). property_data (name, c.deref.result.now)) c.as_str.ensures
    ∙ ap (λ (text : List ℕ). property_data (property_name c.args.row.now.name, text)) c.deref.ensures))
