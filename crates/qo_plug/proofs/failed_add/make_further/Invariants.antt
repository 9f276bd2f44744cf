use Rattle.std.proofs.Common.{◌-◌, length}
use Rattle.qo_model.specs.Types.{slots_of}
use Rattle.qo_plug.proofs.FurtherLemmas.{Passed}
use Rattle.qo_plug.proofs.failed_add.make_further.Given as goal

abbrev pub invariant-loop-row : goal.invariant-loop-row
invariant-loop-row g l = Passed l.device l.kind l.place l.initial.heap l.heap

abbrev pub decreases-loop-row : goal.decreases-loop-row
decreases-loop-row g l = length (slots_of l.kind) - l.place
