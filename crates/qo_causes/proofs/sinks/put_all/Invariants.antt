use Rattle.std.proofs.Common.{length, ◌-◌, ◌≤◌, ◌≡◌, take}
use Rattle.std.specs.Io.KnownBytes.{append_known}
use Rattle.qo_causes.proofs.sinks.put_all.Given as goal

abbrev pub invariant-loop-at : goal.invariant-loop-at
invariant-loop-at g l =
    record {
      within : l.at ≤ length l.bytes;
      held : g.K.Sink.held l.sink ≡ append_known (g.K.Sink.held l.fn.sink) (take l.at l.bytes);
      kept : g.K.Sink.faults l.sink ≡ g.K.Sink.faults l.fn.sink;
    }

abbrev pub decreases-loop-at : goal.decreases-loop-at
decreases-loop-at g l = length l.bytes - l.at
