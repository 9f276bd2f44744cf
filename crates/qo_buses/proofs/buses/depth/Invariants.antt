-- The turns that were taken, and what is left of the way, make the depth.
use Rattle.std.proofs.Common.{◌≡◌, ◌+◌, length}
use Rattle.qo_model.specs.Board.{Board}
use Rattle.qo_model.specs.Devices.{depth_of}
use Rattle.qo_heap.specs.Board.{Shows}
use Rattle.qo_buses.proofs.WayLemmas.{depth_left}
use Rattle.qo_buses.proofs.buses.depth.Given as goal

abbrev pub invariant-loop-turn : goal.invariant-loop-turn
invariant-loop-turn g l = (b : Board) → Shows b l.heap → l.turn + depth_left b (length l.heap.rows) l.turn l.at.birth ≡ depth_of b l.fn.bus.birth
