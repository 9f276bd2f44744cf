-- So many kids, and so many buses, are left at most.
use Rattle.std.proofs.Common.{◌+◌, ◌-◌, ◌*◌}
use Rattle.qo_unplug.proofs.UnparentingLemmas.{Losing, buses_left, kids_left}
use Rattle.qo_unplug.proofs.unparenting.+apart.Given as goal

abbrev pub decreases-take_apart : goal.decreases-take_apart
decreases-take_apart g l = 7 * l.levels

abbrev pub decreases-take_first_kid : goal.decreases-take_first_kid
decreases-take_first_kid g l = 7 * l.levels + 1

abbrev pub decreases-drain : goal.decreases-drain
decreases-drain g l = 7 * l.levels + 2

abbrev pub decreases-lose_bus : goal.decreases-lose_bus
decreases-lose_bus g l = 7 * l.levels + 3

abbrev pub decreases-lose_first_bus : goal.decreases-lose_first_bus
decreases-lose_first_bus g l = 7 * l.levels + 4

abbrev pub decreases-lose_buses : goal.decreases-lose_buses
decreases-lose_buses g l = 7 * l.levels + 5

abbrev pub decreases-take_out : goal.decreases-take_out
decreases-take_out g l = 7 * l.levels + 6

abbrev pub invariant-drain-loop-turn : goal.invariant-drain-loop-turn
invariant-drain-loop-turn g l = Losing (kids_left l.levels l.bus.birth l.count) (kids_left l.levels l.bus.birth (l.count - l._turn)) l.fn.heap l.heap

abbrev pub invariant-lose_buses-loop-turn : goal.invariant-lose_buses-loop-turn
invariant-lose_buses-loop-turn g l = Losing (buses_left l.levels l.dev.birth l.count) (buses_left l.levels l.dev.birth (l.count - l._turn)) l.fn.heap l.heap
