-- What is left is Base64 where the text is.
use Rattle.std.proofs.Common.{◌≡◌, length, is_some}
use Rattle.qo_chardev.specs.Texts.{bytes_of}
use Rattle.qo_chardev.proofs.parts.is_base64.Given as goal

abbrev pub invariant-loop-rest : goal.invariant-loop-rest
invariant-loop-rest l = is_some (bytes_of l.text) ≡ is_some (bytes_of l.rest)

abbrev pub decreases-loop-rest : goal.decreases-loop-rest
decreases-loop-rest l = length l.rest
