-- No slot before the place has a kid.
use Rattle.std.proofs.Common.{◌≡◌, ◌-◌, List, ℕ, drop, length}
use Rattle.std.specs.Prelude.{filter_map}
use Rattle.qo_model.specs.Board.{Board, Slot, slots_at}
use Rattle.qo_model.specs.Devices.{kids_of, strong_in}
use Rattle.qo_heap.specs.Board.{Shows}
use Rattle.qo_heap.specs.Objects.{slots_of}
use Rattle.qo_buses.proofs.kids.first_kid.Given as goal

abbrev pub invariant-loop-bus : goal.invariant-loop-bus
invariant-loop-bus g l = (b : Board) → Shows b l.heap
    → filter_map (λ (t : List ℕ × Slot). strong_in t.1) (drop l.at (slots_at b l.bus.birth)) ≡ kids_of b l.bus.birth

abbrev pub decreases-loop-bus : goal.decreases-loop-bus
decreases-loop-bus g l = length (slots_of l.heap l.bus.birth) - l.at
