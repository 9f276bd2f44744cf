use Rattle.std.proofs.Common.{◌-◌, length}
use Rattle.qo_model.specs.Types.{slots_of}
use Rattle.qo_plug.proofs.DraftLemmas.{Reached}
use Rattle.qo_plug.proofs.drafting.make_properties.Given as goal

abbrev pub invariant-loop-row : goal.invariant-loop-row
invariant-loop-row g l = Reached l.device l.kind l.initial.plan l.place l.at l.initial.heap l.heap l.plan

abbrev pub decreases-loop-row : goal.decreases-loop-row
decreases-loop-row g l = length (slots_of l.kind) - l.place
