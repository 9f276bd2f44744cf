-- The exit statuses.
use Rattle.std.specs.Prelude.{ℕ}
use Rattle.compose.specs.declared.statuses.Status.{Status}
use Rattle.compose.specs.declared.statuses.Status.TheVariants.{Done, Usage, BadRecord, Memory, ReadFault, WriteFault, HubFault, InputLimit, BadBoard}

-- what the program's exit status is
abbrev pub exit_code : Status → ℕ
exit_code Done = 0
exit_code Usage = 2
exit_code BadRecord = 3
exit_code Memory = 4
exit_code ReadFault = 5
exit_code WriteFault = 6
exit_code HubFault = 7
exit_code InputLimit = 8
exit_code BadBoard = 9
