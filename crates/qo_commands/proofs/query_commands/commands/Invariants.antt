-- The names passed over stand in the list.
use Rattle.std.proofs.Common.{◌≡◌, map, take}
use Rattle.serde_json.specs.View.{view}
use Rattle.qo_commands.specs.Commands.{command_data}
use Rattle.qo_commands.proofs.query_commands.commands.Given as goal

abbrev pub invariant-loop-command : goal.invariant-loop-command
invariant-loop-command l = map view l.values.items ≡ map command_data (take l.command-index l.all)
