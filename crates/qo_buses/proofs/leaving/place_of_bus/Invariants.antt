-- No slot before the place is that of the bus.
use Rattle.std.proofs.Common.{◌≡◌, ◌-◌, length}
use Rattle.qo_model.specs.Unplug.{is_bus_child}
use Rattle.qo_heap.specs.Objects.{slots_of}
use Rattle.qo_heap.proofs.SlotPlaces.{place_after}
use Rattle.qo_buses.proofs.leaving.place_of_bus.Given as goal

abbrev pub invariant-loop-view : goal.invariant-loop-view
invariant-loop-view g l =
    place_after (is_bus_child l.birth) l.at (slots_of l.heap l.o.birth) ≡ place_after (is_bus_child l.birth) 0 (slots_of l.heap l.o.birth)

abbrev pub decreases-loop-view : goal.decreases-loop-view
decreases-loop-view g l = length (slots_of l.heap l.o.birth) - l.at
