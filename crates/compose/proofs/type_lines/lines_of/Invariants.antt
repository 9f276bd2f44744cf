-- The lines of the types passed over.
use Rattle.std.proofs.Common.{◌≡◌, flat_map, filter_map, string_bytes, take}
use Rattle.qo_model.specs.Types.{info_of, type_line}
use Rattle.compose.proofs.type_lines.lines_of.Given as goal

abbrev pub invariant-loop-t : goal.invariant-loop-t
invariant-loop-t l = string_bytes l.lines ≡ flat_map type_line (filter_map info_of (take l.t-index l.types))
