-- What is still to be read is what there was to read.
use Rattle.std.proofs.Common.{◌≡◌, drop}
use Rattle.qo_text.specs.Numbers.{with_digits}
use Rattle.qo_text.proofs.numbers.with_digits.Given as goal

abbrev pub invariant-loop-digit : goal.invariant-loop-digit
invariant-loop-digit l = with_digits l.number (drop l.digit-index l.digits) ≡ with_digits l.fn.number l.digits
