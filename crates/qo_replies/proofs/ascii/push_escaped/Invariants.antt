use Rattle.std.proofs.Common.{◌≡◌, ◌++◌, IsUtf8, string_bytes}
use Rattle.std.specs.Str.Iter.{chars_rest}
use Rattle.qo_replies.specs.Json.{ascii}
use Rattle.qo_replies.proofs.ascii.push_escaped.Given as goal

abbrev pub invariant-loop-character : goal.invariant-loop-character
invariant-loop-character l =
    IsUtf8 (chars_rest l.character-iterator) × (string_bytes l.text ++ ascii (chars_rest l.character-iterator) ≡ string_bytes l.fn.text ++ ascii l.fn.plain)
