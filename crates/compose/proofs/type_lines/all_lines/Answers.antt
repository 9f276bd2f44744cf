-- All types are listed.
use Rattle.std.proofs.Common.{string_bytes}
use Rattle.compose.proofs.TypeLemmas.{all_lines_put}
use Rattle.compose.proofs.type_lines.all_lines.Goals as goal

pub returns-in-Ok : goal.returns-in-Ok
returns-in-Ok c =
    all_lines_put string_bytes c.lines_of.result c.as_slice.result.now c.in-Ok.types.items c.as_slice.ensures.value c.in-Ok.ensures c.lines_of.ensures
