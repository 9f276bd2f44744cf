-- The buses in the slots before the place are realized.
use Rattle.std.proofs.Common.{◌-◌, length}
use Rattle.qo_heap.specs.Objects.{slots_of}
use Rattle.qo_plug.proofs.StartLemmas.{Realized}
use Rattle.qo_plug.proofs.starting.realize_buses.Given as goal

abbrev pub invariant-loop-device : goal.invariant-loop-device
invariant-loop-device g l = Realized l.device.birth l.at l.initial.heap l.heap

abbrev pub decreases-loop-device : goal.decreases-loop-device
decreases-loop-device g l = length (slots_of l.initial.heap l.device.birth) - l.at
