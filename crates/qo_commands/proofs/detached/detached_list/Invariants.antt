-- The objects passed over stand in the list.
use Rattle.std.proofs.Common.{◌≡◌, map, take}
use Rattle.serde_json.specs.View.{view}
use Rattle.qo_commands.specs.Commands.{detached_data}
use Rattle.qo_commands.proofs.detached.detached_list.Given as goal

abbrev pub invariant-loop-o : goal.invariant-loop-o
invariant-loop-o l = map view l.values.items ≡ map detached_data (take l.o-index l.objects)
