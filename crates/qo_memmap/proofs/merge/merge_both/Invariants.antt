use Rattle.std.proofs.Common.{◌-◌}
use Rattle.qo_memmap.specs.Merges.{IsMerging}
use Rattle.qo_memmap.proofs.merge.merge_both.Given as goal

abbrev pub invariant-loop-at : goal.invariant-loop-at
invariant-loop-at l = IsMerging l.first l.later l.order l.end l.first_left l.later_left l.merged.items l.at

abbrev pub decreases-loop-at : goal.decreases-loop-at
decreases-loop-at l = l.end - l.at
