-- What is found from the bus in the slots that are left is what is found in all.
use Rattle.std.proofs.Common.{◌≡◌, length}
use Rattle.qo_model.specs.Board.{Board}
use Rattle.qo_model.specs.Devices.{found_at}
use Rattle.qo_heap.specs.Rows.{IsLive}
use Rattle.qo_heap.specs.Board.{Shows}
use Rattle.qo_buses.proofs.addresses.found_at.Given as goal

abbrev pub invariant-loop-slot : goal.invariant-loop-slot
invariant-loop-slot g l = ((b : Board) → Shows b l.heap → found_at b l.bus.birth l.left ≡ found_at b l.fn.from.birth l.fn.slots) × IsLive l.heap.rows l.bus

abbrev pub decreases-loop-slot : goal.decreases-loop-slot
decreases-loop-slot g l = length l.left
