-- One digit more is read.
use Rattle.std.proofs.Common.{◌≡◌, ℕ, suc, ◌+◌, ◌-◌, ◌<◌, List, ◌∷◌, Option, Some, arith, rules}
use Rattle.qo_record.specs.Reading.{with_digit, digits_of}
use Rattle.qo_record.proofs.reading.six_digits.Goals as goal

one_more : (k n b next : ℕ) (bytes rest : List ℕ) (whole : Option (ℕ × List ℕ)) → k < 6 → bytes ≡ b ∷ rest → with_digit 999999 n b ≡ Some next →
    digits_of (6 - k) n bytes ≡ whole → digits_of (6 - (k + 1)) next rest ≡ whole
one_more k n b next bytes rest whole below is made kept =
    let e : 6 - k ≡ suc (6 - (k + 1)) = omega arith in let a = rw (is, e) at kept in rw made at a

pub loop-preserved : goal.loop-preserved
loop-preserved c =
    record {
      kept = one_more c.loop.counter c.loop.number c.in_ok-byte.byte.now c.in_ok-number.number c.loop.left.now c.in_ok-byte.rest.now _ (omega arith)
          (search rules) (search rules) c.loop.invariant.kept;
      bound = search rules;
    }
