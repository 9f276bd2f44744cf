-- The rows passed over stand in the list.
use Rattle.std.proofs.Common.{◌≡◌, map, flat_map, take}
use Rattle.serde_json.specs.View.{view}
use Rattle.qo_model.specs.Types.{slots_of}
use Rattle.qo_commands.specs.Commands.{property_data}
use Rattle.qo_commands.specs.Views.{words_for_adding}
use Rattle.qo_commands.proofs.types.row_listing.Given as goal

abbrev pub invariant-loop-row : goal.invariant-loop-row
invariant-loop-row l = map view l.values.items ≡ map property_data (flat_map words_for_adding (take l.row-index (slots_of l.fn.t)))
