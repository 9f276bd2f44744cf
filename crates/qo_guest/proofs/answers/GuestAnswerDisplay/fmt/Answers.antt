use Rattle.std.proofs.Common.{◌≡◌, Some, ap, arith}
use Rattle.std.specs.Fmt.{styled_digits_output}
use Rattle.qo_guest.specs.Answers.{hex_text}
use Rattle.qo_guest.proofs.HexPadding.{padded_is}
use Rattle.qo_guest.proofs.answers.GuestAnswerDisplay.fmt.Goals as goal

pub returns-in-Value-clause-writes : goal.returns-in-Value-clause-writes
returns-in-Value-clause-writes g c = λ plain ok.
    let made : styled_digits_output c.in_radix.result c.laid_out.result ≡ Some (hex_text 8 c.in-Value.value) =
    rw (c.laid_out.ensures, c.in_radix.ensures) (ap Some (padded_is c.in-Value.value (omega arith))) in
    rw c.in-Value.is ((rw made at c.write-in-Value.ensures.writes) plain ok)
