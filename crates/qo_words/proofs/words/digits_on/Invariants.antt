-- What is still to be read here is what there was to read.
use Rattle.std.proofs.Common.{◌≡◌, ◌≤◌, length}
use Rattle.qo_words.specs.Words.{digits_on}
use Rattle.qo_words.proofs.words.digits_on.Given as goal

abbrev pub invariant-loop-left : goal.invariant-loop-left
invariant-loop-left l =
    record {
      kept : digits_on l.last l.number l.left ≡ digits_on l.last l.fn.first l.fn.bytes;
      bound : l.number ≤ l.last;
    }

abbrev pub decreases-loop-left : goal.decreases-loop-left
decreases-loop-left l = length l.left
