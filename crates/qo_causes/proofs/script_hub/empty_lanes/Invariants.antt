-- The lanes made so far are empty ones.
use Rattle.std.proofs.Common.{◌≡◌, replicate}
use Rattle.qo_causes.specs.Script.{empty_shelf}
use Rattle.qo_causes.proofs.script_hub.empty_lanes.Given as goal

abbrev pub invariant-loop : goal.invariant-loop
invariant-loop l = l.lanes.items ≡ replicate l.counter (empty_shelf l.fn.room)
