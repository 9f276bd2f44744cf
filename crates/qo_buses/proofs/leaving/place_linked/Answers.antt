-- The slots are looked at one after another.
use Rattle.std.proofs.Common.{sym, ◌∙◌}
use Rattle.qo_model.specs.Unplug.{names_kid}
use Rattle.qo_heap.specs.Objects.{slots_of}
use Rattle.qo_heap.proofs.SlotPlaces.{place-here, place-next, place-past, slots-fewer}
use Rattle.qo_buses.proofs.leaving.place_linked.Goals as goal

pub returns-then-links_to-clause-place : goal.returns-then-links_to-clause-place
returns-then-links_to-clause-place g c =
    sym (place-here (names_kid c.args.birth) c.loop-view.at (slots_of c.args.heap.now c.args.o.birth) (c.in-Some.view.name.now, c.in-Some.view.what.now)
    (sym c.in-Some.ensures.slot) (sym c.links_to.ensures ∙ c.if-links_to.true))
    ∙ c.loop-view.invariant

pub loop-view-smaller : goal.loop-view-smaller
loop-view-smaller g c = slots-fewer c.loop-view.at _ _ (sym c.in-Some.ensures.slot)

pub loop-view-preserved : goal.loop-view-preserved
loop-view-preserved g c =
    sym (place-next (names_kid c.args.birth) c.loop-view.at (slots_of c.args.heap.now c.args.o.birth) (c.in-Some.view.name.now, c.in-Some.view.what.now)
    (sym c.in-Some.ensures.slot) (sym c.links_to.ensures ∙ c.if-links_to.false))
    ∙ c.loop-view.invariant

pub returns-clause-place : goal.returns-clause-place
returns-clause-place g c =
    sym (place-past (names_kid c.args.birth) c.loop-view.at (slots_of c.args.heap.now c.args.o.birth) (sym c.in_default.ensures.slot)) ∙ c.loop-view.invariant
