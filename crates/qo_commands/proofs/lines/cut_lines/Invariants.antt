-- The bytes passed over are cut.
use Rattle.std.proofs.Common.{◌≡◌, take}
use Rattle.qo_commands.specs.Lines.{lines_of}
use Rattle.qo_commands.proofs.lines.cut_lines.Given as goal

abbrev pub invariant-loop-byte : goal.invariant-loop-byte
invariant-loop-byte l = lines_of l.fn.kept.items (take l.byte-index l.piece) ≡ record { lines = l.lines.items; rest = l.kept.items }
