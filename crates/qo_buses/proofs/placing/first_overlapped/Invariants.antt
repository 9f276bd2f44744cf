-- No range before the place is overlapped.
use Rattle.std.proofs.Common.{◌≡◌, drop, find}
use Rattle.qo_values.specs.Placing.{overlap}
use Rattle.qo_buses.proofs.placing.first_overlapped.Given as goal

abbrev pub invariant-loop-held : goal.invariant-loop-held
invariant-loop-held l = find (overlap l.range) (drop l.held-index l.ranges) ≡ find (overlap l.range) l.ranges
