-- The digits of a session's number.
use Rattle.std.proofs.Common.{arith}
use Rattle.qo_record.proofs.LineLemmas.{hundreds_digits, one_digit, puts_same, tens_digits}
use Rattle.qo_record.proofs.lines.put_number.Goals as goal

pub returns-then-number-lt10-clause-bytes : goal.returns-then-number-lt10-clause-bytes
returns-then-number-lt10-clause-bytes g c =
    puts_same _ _ _ _ _ (one_digit c.args.number (omega arith)) c.put_all.ensures.bytes

pub returns-then-number-lt100-clause-bytes : goal.returns-then-number-lt100-clause-bytes
returns-then-number-lt100-clause-bytes g c =
    puts_same _ _ _ _ _ (tens_digits c.args.number (omega arith) (omega arith)) c.put_all-then-number-lt100.ensures.bytes

pub returns-clause-bytes : goal.returns-clause-bytes
returns-clause-bytes g c =
    puts_same _ _ _ _ _ (hundreds_digits c.args.number (omega arith) (omega arith)) c.put_all-2.ensures.bytes
