-- Names with commas between them.
use Rattle.std.proofs.Common.{rules, ◌<◌, length}
use Rattle.compose.proofs.TypeLemmas.{names_joined}
use Rattle.compose.proofs.type_lines.names_of.Goals as goal

pub returns : goal.returns
returns c = let some : 0 < length c.args.names.now = search rules in rw (names_joined c.args.names.now some) at c.join.ensures.ok
