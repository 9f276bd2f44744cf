-- What is ahead is as it was.
use Rattle.std.proofs.Common.{◌≡◌, ◌-◌, length}
use Rattle.qo_record.specs.Replays.{ahead_of}
use Rattle.qo_record.proofs.readers.find_header.Given as goal

abbrev pub invariant-loop-version : goal.invariant-loop-version
invariant-loop-version g l =
    let source = g.S.Source in
    record {
      ahead : ahead_of l.window (source.left l.source) ≡ ahead_of l.fn.window (source.left l.fn.source);
      count : source.faults l.source ≡ source.faults l.fn.source;
    }

abbrev pub decreases-loop-version : goal.decreases-loop-version
decreases-loop-version g l = 65699 - length l.window
