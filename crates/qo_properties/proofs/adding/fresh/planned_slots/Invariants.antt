-- With the slots of the rows that are left, filled with what is left of the plan, all are there.
use Rattle.std.proofs.Common.{◌≡◌, ◌++◌, drop, filter_map}
use Rattle.std.specs.Vec.Iter.{into_iter_items}
use Rattle.qo_properties.specs.Filling.{filled}
use Rattle.qo_properties.specs.NewSlots.{new_slots, slot_begun}
use Rattle.qo_properties.proofs.adding.fresh.planned_slots.Given as goal

abbrev pub invariant-loop-row : goal.invariant-loop-row
invariant-loop-row l = l.slots ++ filled (into_iter_items l.fills) (filter_map (slot_begun l.kind) (drop l.row-index l.rows))
    ≡ filled l.fn.plan.items (new_slots l.kind)
