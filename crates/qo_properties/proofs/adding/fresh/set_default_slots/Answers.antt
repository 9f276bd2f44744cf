-- Its slots are those of a new object.
use Rattle.std.proofs.Common.{List, ap, ◌∙◌}
use Rattle.qo_heap.specs.Rows.{IsLive}
use Rattle.qo_object.specs.Content.{with_all_slots}
use Rattle.qo_object.specs.Slots.{Named}
use Rattle.qo_heap.specs.Objects.{with_edit}
use Rattle.qo_properties.proofs.SlotsLemmas.{none-live, slots-childless, slots-differ, slots-few, slots-first}
use Rattle.qo_properties.proofs.adding.fresh.set_default_slots.Goals as goal

pub set_slots-requires-clause-targets : goal.set_slots-requires-clause-targets
set_slots-requires-clause-targets g c =
    none-live c.args.kind c.new.result.items c.in_ok-slots.slots c.in_ok-slots.ensures c.new.ensures.items (IsLive c.args.heap.now.rows)

pub set_slots-requires-clause-differ : goal.set_slots-requires-clause-differ
set_slots-requires-clause-differ g c = slots-differ c.args.kind c.new.result.items c.in_ok-slots.slots c.in_ok-slots.ensures

pub set_slots-requires-clause-few : goal.set_slots-requires-clause-few
set_slots-requires-clause-few g c = slots-few c.args.kind c.new.result.items c.in_ok-slots.slots c.in_ok-slots.ensures

pub set_slots-requires-clause-childless : goal.set_slots-requires-clause-childless
set_slots-requires-clause-childless g c = slots-childless c.args.kind c.new.result.items c.in_ok-slots.slots c.in_ok-slots.ensures

pub returns-clause-ok : goal.returns-clause-ok
returns-clause-ok g c =
    c.set_slots.ensures
    ∙ ap (λ (l : List Named). with_edit c.args.o.birth (with_all_slots l) c.args.heap.now)
    (slots-first c.args.kind c.new.result.items c.in_ok-slots.slots c.in_ok-slots.ensures c.new.ensures.items)
