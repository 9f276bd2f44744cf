use Rattle.std.proofs.Common.{◌≡◌, ◌-◌, length, false, take}
use Rattle.std.specs.List.{flat_map, list_any}
use Rattle.qo_heap.specs.Objects.{slots_of}
use Rattle.qo_reset.specs.Counts.{is_full}
use Rattle.qo_reset.specs.Phases.{below_on, is_bus, kids_in, post_by}
use Rattle.qo_reset.proofs.counts.+exceeds_depth_below.Given as goal

abbrev pub decreases-exceeds_depth_below : goal.decreases-exceeds_depth_below
decreases-exceeds_depth_below g l = l.levels

abbrev pub invariant-loop-child : goal.invariant-loop-child
invariant-loop-child g l =
    list_any (is_full l.heap)
    (flat_map (post_by (below_on l.heap) (l.levels - 1)) (kids_in (is_bus l.heap) (is_bus l.heap l.from.birth) (take l.at (slots_of l.heap l.from.birth)))) ≡
    false

abbrev pub decreases-loop-child : goal.decreases-loop-child
decreases-loop-child g l = length (slots_of l.heap l.from.birth) - l.at
