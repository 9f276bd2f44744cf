-- The notes passed over stand in the list.
use Rattle.std.proofs.Common.{◌≡◌, map, take}
use Rattle.serde_json.specs.View.{view}
use Rattle.qo_commands.specs.Commands.{note_data}
use Rattle.qo_commands.proofs.notes.note_list.Given as goal

abbrev pub invariant-loop-note : goal.invariant-loop-note
invariant-loop-note l = map view l.values.items ≡ map note_data (take l.note-index l.notes)
