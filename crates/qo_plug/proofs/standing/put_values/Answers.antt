-- The own slots are filled, and then the slots of these names are.
use Rattle.std.proofs.Common.{ℕ, true, codes, subst}
use Rattle.qo_values.specs.declared.properties.Val.TheVariants as val
use Rattle.qo_model.specs.Board.{Board}
use Rattle.qo_model.specs.Plug.{addressed_at, link_named, with_given}
use Rattle.qo_model.specs.Release.{edit}
use Rattle.qo_model.specs.Unplug.{set_named}
use Rattle.qo_heap.specs.Board.{Shows}
use Rattle.qo_plug.specs.Placement.{range_in}
use Rattle.qo_plug.proofs.PlacementSteps.{shows-given, stays-own, stays-then}
use Rattle.qo_plug.proofs.standing.put_values.Goals as goal

pub put_value-requires : goal.put_value-requires
put_value-requires g c =
    (stays-own c.args.heap.now c.settle_own.new.heap c.args.device.birth c.args.plan.items c.settle_own.ensures).alike.names c.args.device c.requires.live

pub put_bus-requires-clause-live : goal.put_bus-requires-clause-live
put_bus-requires-clause-live g c =
    (stays-then c.args.heap.now c.settle_own.new.heap c.put_value.new.heap
    (stays-own c.args.heap.now c.settle_own.new.heap c.args.device.birth c.args.plan.items c.settle_own.ensures) c.put_value.ensures.stays).alike.names
    c.args.device c.requires.live

pub put_bus-requires-clause-bus : goal.put_bus-requires-clause-bus
put_bus-requires-clause-bus g c =
    (stays-then c.args.heap.now c.settle_own.new.heap c.put_value.new.heap
    (stays-own c.args.heap.now c.settle_own.new.heap c.args.device.birth c.args.plan.items c.settle_own.ensures) c.put_value.ensures.stays).alike.names
    c.args.bus c.requires.bus

pub put_value-requires-2 : goal.put_value-requires-2
put_value-requires-2 g c =
    c.put_bus.ensures.stays.alike.names c.args.device
    ((stays-then c.args.heap.now c.settle_own.new.heap c.put_value.new.heap (stays-own c.args.heap.now c.settle_own.new.heap c.args.device.birth
    c.args.plan.items c.settle_own.ensures) c.put_value.ensures.stays).alike.names
    c.args.device c.requires.live)

pub put_address-requires : goal.put_address-requires
put_address-requires g c =
    c.put_value-2.ensures.stays.alike.names c.args.device
    (c.put_bus.ensures.stays.alike.names c.args.device
    ((stays-then c.args.heap.now c.settle_own.new.heap c.put_value.new.heap (stays-own c.args.heap.now c.settle_own.new.heap c.args.device.birth
    c.args.plan.items c.settle_own.ensures) c.put_value.ensures.stays).alike.names
    c.args.device c.requires.live))

pub returns-clause-shown : goal.returns-clause-shown
returns-clause-shown g c = λ b d props s told.
    let given = shows-given b d c.args.heap.now c.settle_own.new.heap c.args.device props c.args.plan.items s c.reveal_invariant.ensures c.requires.live told
    c.settle_own.ensures in
    let linked : Board = link_named c.args.device.birth (codes "parent_bus") c.args.bus.birth (set_named c.args.device.birth (codes "slot")
    (val.Uint c.from.result) (edit c.args.device.birth (with_given b props) d)) in
    subst (λ (k : ℕ). Shows (addressed_at c.args.device.birth (range_in c.args.memory) (set_named c.args.device.birth (codes "realized")
    (val.Bool true) (link_named c.args.device.birth (codes "parent_bus") c.args.bus.birth (set_named c.args.device.birth (codes "slot")
    (val.Uint k) (edit c.args.device.birth (with_given b props) d))))) c.put_address.new.heap) c.from.ensures
    (c.put_address.ensures.shown (set_named c.args.device.birth (codes "realized") (val.Bool true) linked)
    (c.put_value-2.ensures.shown linked
    (c.put_bus.ensures.shown (set_named c.args.device.birth (codes "slot") (val.Uint c.from.result) (edit c.args.device.birth (with_given b props) d))
    (c.put_value.ensures.shown (edit c.args.device.birth (with_given b props) d) given))))

pub returns-clause-stays : goal.returns-clause-stays
returns-clause-stays g c =
    stays-then c.args.heap.now c.settle_own.new.heap c.put_address.new.heap (stays-own c.args.heap.now c.settle_own.new.heap c.args.device.birth
    c.args.plan.items c.settle_own.ensures)
    (stays-then c.settle_own.new.heap c.put_value.new.heap c.put_address.new.heap c.put_value.ensures.stays
    (stays-then c.put_value.new.heap c.put_bus.new.heap c.put_address.new.heap c.put_bus.ensures.stays
    (stays-then c.put_bus.new.heap c.put_value-2.new.heap c.put_address.new.heap c.put_value-2.ensures.stays c.put_address.ensures.stays)))
