-- few digits stand for a number below that of more
use Rattle.std.proofs.Common.{arith}
use Rattle.qo_guest.proofs.Hex.{within_more}
use Rattle.qo_guest.proofs.words.read_digits.Goals as goal

pub returns-in-48-clause-within : goal.returns-in-48-clause-within
returns-in-48-clause-within c = within_more _ _ _ (omega (arith, c.if-digits-most.true)) c.read_hex.ensures.within
