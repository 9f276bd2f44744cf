-- What is named is the same, and each slot so far has its place.
use Rattle.std.proofs.Common.{◌≡◌, ◌-◌, length}
use Rattle.qo_heap.specs.Furnishing.{IsSplit, refilled}
use Rattle.qo_heap.proofs.new_slots.pad.Given as goal

abbrev pub invariant-loop-targets : goal.invariant-loop-targets
invariant-loop-targets l =
    record {
      split : IsSplit l.targets.items l.slots;
      same : refilled l.targets.items l.slots ≡ refilled l.fn.targets.items l.slots;
    }

abbrev pub decreases-loop-targets : goal.decreases-loop-targets
decreases-loop-targets l = length l.slots - length l.targets.items
