-- Whether a removal is pending on the way is whether one is on what is left of it.
use Rattle.std.proofs.Common.{◌≡◌, length}
use Rattle.qo_model.specs.Board.{Board}
use Rattle.qo_model.specs.Devices.{is_going}
use Rattle.qo_heap.specs.Board.{Shows}
use Rattle.qo_buses.proofs.WayLemmas.{going_left}
use Rattle.qo_buses.proofs.buses.is_going.Given as goal

abbrev pub invariant-loop-turn : goal.invariant-loop-turn
invariant-loop-turn g l = (b : Board) → Shows b l.heap → b.pending ≡ l.hotplug.pending
    → going_left b (length l.heap.rows) l._turn l.at.birth ≡ is_going b l.fn.bus.birth
