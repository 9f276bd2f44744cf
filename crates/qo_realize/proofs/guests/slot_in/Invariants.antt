-- No slot below this one has the device.
use Rattle.std.proofs.Common.{◌≡◌, ◌-◌}
use Rattle.qo_values.specs.Placing.{least}
use Rattle.qo_model.specs.Board.{Board}
use Rattle.qo_heap.specs.Board.{Shows}
use Rattle.qo_realize.specs.Guest.{is_in_slot}
use Rattle.qo_realize.proofs.guests.slot_in.Given as goal

abbrev pub invariant-loop-slot : goal.invariant-loop-slot
invariant-loop-slot g l =
    (b : Board) → Shows b l.heap → least (is_in_slot b l.bus.birth l.dev.birth) l.slot (8 - l.slot) ≡ least (is_in_slot b l.bus.birth l.dev.birth) 0 8
