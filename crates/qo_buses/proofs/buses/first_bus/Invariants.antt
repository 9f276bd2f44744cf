-- No slot before the place has a bus.
use Rattle.std.proofs.Common.{◌≡◌, ◌-◌, drop, length}
use Rattle.std.specs.Prelude.{filter_map}
use Rattle.qo_model.specs.Board.{Board, slots_at}
use Rattle.qo_model.specs.Devices.{bus_in, buses_of}
use Rattle.qo_heap.specs.Board.{Shows}
use Rattle.qo_heap.specs.Objects.{slots_of}
use Rattle.qo_buses.proofs.buses.first_bus.Given as goal

abbrev pub invariant-loop-dev : goal.invariant-loop-dev
invariant-loop-dev g l = (b : Board) → Shows b l.heap → filter_map (bus_in b) (drop l.at (slots_at b l.dev.birth)) ≡ buses_of b l.dev.birth

abbrev pub decreases-loop-dev : goal.decreases-loop-dev
decreases-loop-dev g l = length (slots_of l.heap l.dev.birth) - l.at
