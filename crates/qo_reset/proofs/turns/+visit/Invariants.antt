use Rattle.std.proofs.Common.{◌≡◌, ◌-◌, length}
use Rattle.qo_heap.specs.Objects.{slots_of}
use Rattle.qo_reset.specs.Phases.{births_of}
use Rattle.qo_reset.specs.Turns.{visited_to}
use Rattle.qo_reset.proofs.turns.+visit.Given as goal

abbrev pub decreases-visit : goal.decreases-visit
decreases-visit g l = l.levels

abbrev pub invariant-loop-child : goal.invariant-loop-child
invariant-loop-child g l = l.heap ≡ visited_to l.turn (births_of l.holds) (l.levels - 1) l.o.birth l.at l.fn.heap

abbrev pub decreases-loop-child : goal.decreases-loop-child
decreases-loop-child g l = length (slots_of l.heap l.o.birth) - l.at
