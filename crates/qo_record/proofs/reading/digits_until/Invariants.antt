-- What is still to be read here is what there was to read.
use Rattle.std.proofs.Common.{◌≡◌, ◌≤◌, length}
use Rattle.qo_record.specs.Reading.{digits_until}
use Rattle.qo_record.proofs.reading.digits_until.Given as goal

abbrev pub invariant-loop-left : goal.invariant-loop-left
invariant-loop-left l =
    record {
      kept : digits_until l.stop l.last l.number l.left ≡ digits_until l.stop l.last l.fn.first l.fn.bytes;
      bound : l.number ≤ l.last;
    }

abbrev pub decreases-loop-left : goal.decreases-loop-left
decreases-loop-left l = length l.left
