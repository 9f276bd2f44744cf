use Rattle.std.specs.List.{IsDistinct}
use Rattle.qo_object.proofs.slot_map.SlotMap.new.Goals as goal

pub invariant_of-result : goal.invariant_of-result
unfolding IsDistinct
invariant_of-result c = rw c.new.ensures.items (tt, tt)
