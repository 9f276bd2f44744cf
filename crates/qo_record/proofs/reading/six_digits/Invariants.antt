-- What is still to be read here is what there was to read.
use Rattle.std.proofs.Common.{◌≡◌, ◌≤◌, ◌-◌}
use Rattle.qo_record.specs.Reading.{digits_of}
use Rattle.qo_record.proofs.reading.six_digits.Given as goal

abbrev pub invariant-loop : goal.invariant-loop
invariant-loop l =
    record {
      kept : digits_of (6 - l.counter) l.number l.left ≡ digits_of 6 0 l.fn.bytes;
      bound : l.number ≤ 999999;
    }
