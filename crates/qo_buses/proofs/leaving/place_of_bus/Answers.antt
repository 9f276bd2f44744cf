-- The slots are looked at one after another.
use Rattle.std.proofs.Common.{sym, ◌∙◌}
use Rattle.qo_model.specs.Unplug.{is_bus_child}
use Rattle.qo_heap.specs.Objects.{slots_of}
use Rattle.qo_heap.proofs.SlotPlaces.{place-here, place-next, place-past, slots-fewer}
use Rattle.qo_buses.proofs.leaving.place_of_bus.Goals as goal

pub returns-then-is_bus_child : goal.returns-then-is_bus_child
returns-then-is_bus_child g c =
    sym (place-here (is_bus_child c.args.birth) c.loop-view.at (slots_of c.args.heap.now c.args.o.birth) (c.in-Some.view.name.now, c.in-Some.view.what.now)
    (sym c.in-Some.ensures.slot) (sym c.is_bus_child.ensures ∙ c.if-is_bus_child.true))
    ∙ c.loop-view.invariant

pub loop-view-smaller : goal.loop-view-smaller
loop-view-smaller g c = slots-fewer c.loop-view.at _ _ (sym c.in-Some.ensures.slot)

pub loop-view-preserved : goal.loop-view-preserved
loop-view-preserved g c =
    sym (place-next (is_bus_child c.args.birth) c.loop-view.at (slots_of c.args.heap.now c.args.o.birth) (c.in-Some.view.name.now, c.in-Some.view.what.now)
    (sym c.in-Some.ensures.slot) (sym c.is_bus_child.ensures ∙ c.if-is_bus_child.false))
    ∙ c.loop-view.invariant

pub returns : goal.returns
returns g c =
    sym (place-past (is_bus_child c.args.birth) c.loop-view.at (slots_of c.args.heap.now c.args.o.birth) (sym c.in_default.ensures.slot))
    ∙ c.loop-view.invariant
