use Rattle.std.proofs.Common.{◌≡◌, ◌++◌, string_bytes, length}
use denote.Text.{Utf8}
use denote.Shadow.{shadow}
use Rattle.qo_text.specs.Joined.{first_with}
use Rattle.qo_text.specs.Options.{parts}
use Rattle.qo_text.proofs.options.parts.Given as goal

abbrev pub invariant-loop-front : goal.invariant-loop-front
invariant-loop-front l = shadow (Utf8 l.rest) × (l.found.items ++ first_with (string_bytes l.part) (parts l.rest) ≡ parts l.text)

abbrev pub decreases-loop-front : goal.decreases-loop-front
decreases-loop-front l = length l.rest
