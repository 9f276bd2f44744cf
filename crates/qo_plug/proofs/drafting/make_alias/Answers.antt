-- The alias stands after the other slots, where the child is there.
use Rattle.std.proofs.Common.{refl}
use Rattle.qo_model.specs.Plug.{owned}
use Rattle.qo_model.specs.RowNames.{property_name}
use Rattle.qo_object.specs.Content.{with_slot}
use Rattle.qo_object.specs.declared.slots.Slot.TheVariants.{Alias}
use Rattle.qo_plug.proofs.DraftLemmas.{alias-shown, own-aliased}
use Rattle.qo_plug.proofs.GrowthLemmas.{grows-edit}
use Rattle.qo_plug.proofs.drafting.make_alias.Goals as goal

pub returns-clause-ok : goal.returns-clause-ok
returns-clause-ok g c = λ b s.
    alias-shown c.args.heap.now c.add_alias.new.self c.args.device c.in-Some.child c.row.result (property_name c.args.name) c.row-2.result
    (property_name c.args.of) c.row.ensures c.row-2.ensures c.in_ok-add_alias.ensures.added b s
    (owned b c.args.device.birth (property_name c.args.owner)) (c.in-Some.ensures b s)

pub returns-clause-own : goal.returns-clause-own
returns-clause-own g c =
    own-aliased c.args.heap.now c.add_alias.new.self c.args.device c.in-Some.child c.row.result c.row-2.result c.requires.live c.in_ok-add_alias.ensures.added

pub returns-clause-grows : goal.returns-clause-grows
returns-clause-grows g c =
    grows-edit c.args.heap.now c.add_alias.new.self c.args.device.birth (with_slot c.row.result (Alias c.in-Some.child c.row-2.result)) (λ d. refl)
    c.in_ok-add_alias.ensures.added
