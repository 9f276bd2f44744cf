use Rattle.std.proofs.Common.{sym}
use Rattle.qo_reset.proofs.WalkLemmas.{child-live, strong-live, bus-live}
use Rattle.qo_reset.proofs.reach.below_at.Goals as goal

pub bus_child-requires : goal.bus_child-requires
bus_child-requires g c = child-live c.args.heap.now c.reveal_invariant.ensures c.args.o.birth c.args.at _ (sym c.in_ok-slot.ensures.slot)

pub returns-then-bus-clause-live : goal.returns-then-bus-clause-live
returns-then-bus-clause-live g c =
    rw c.strong_target.ensures (strong-live c.args.heap.now c.reveal_invariant.ensures c.args.o.birth c.args.at _ (sym c.in_ok-slot.ensures.slot))

pub returns-else-bus-clause-live : goal.returns-else-bus-clause-live
returns-else-bus-clause-live g c =
    rw c.bus_child.ensures (bus-live c.args.heap.now c.reveal_invariant.ensures c.args.o.birth c.args.at _ (sym c.in_ok-slot.ensures.slot))
