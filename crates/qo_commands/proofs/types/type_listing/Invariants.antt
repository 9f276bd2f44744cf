-- The types passed over stand in the list.
use Rattle.std.proofs.Common.{◌≡◌, map, filter_map, take}
use Rattle.serde_json.specs.View.{view}
use Rattle.qo_model.specs.Types.{info_of}
use Rattle.qo_commands.specs.Commands.{type_data}
use Rattle.qo_commands.proofs.types.type_listing.Given as goal

abbrev pub invariant-loop-t : goal.invariant-loop-t
invariant-loop-t l = map view l.values.items ≡ map type_data (filter_map info_of (take l.t-index l.types))
