-- The line of a type, and its end.
use Rattle.std.proofs.Common.{string_bytes}
use Rattle.compose.proofs.TypeLemmas.{line_added}
use Rattle.compose.proofs.type_lines.add_line.Goals as goal

pub returns : goal.returns
unfolding lib.Utf8.encode
returns c =
    line_added c.args.t c.push.result (string_bytes c.args.lines.now) _ _ _ _
    c.in_ok-line.ensures c.as_str.ensures.value c.in_ok-push_str.ensures.bytes c.push.ensures.bytes
