-- A slot of a value or a link is added with the value planned for it; a further object and an alias leave what was given.
use Rattle.std.proofs.lemmas.Result.{on_ok_weaker}
use Rattle.std.proofs.Common.{◌≡◌, ap, ◌∙◌, List, ℕ, None, Some}
use Rattle.qo_model.specs.Opening.{first_value}
use Rattle.qo_model.specs.RowNames.{property_name}
use Rattle.qo_object.specs.Content.{with_slot}
use Rattle.qo_object.specs.declared.slots.Slot.{Slot}
use Rattle.qo_object.specs.declared.slots.Slot.TheVariants.{Plain, Link}
use Rattle.qo_heap.specs.Objects.{Objects, with_edit}
use Rattle.qo_properties.specs.Filling.{filled_with, value_alone}
use Rattle.qo_properties.specs.NewSlots.{begun}
use Rattle.qo_plug.proofs.DraftLemmas.{alias-given, kid-given, slot-grows, slot-own, slot-shown}
use Rattle.qo_plug.proofs.GrowthLemmas.{grows-either}
use Rattle.qo_plug.proofs.PlannedSlots.{fills-plain, leaves-link}
use Rattle.qo_plug.proofs.drafting.make_property.Goals as goal

valued : (g : _) (c : goal.After-add_value g) → begun c.args.kind c.args.row.role ≡ Some (Plain (first_value c.args.kind c.in-Plain.first))
valued g c = ap (begun c.args.kind) c.in-Plain.is

added : (g : _) (c : goal.After-add_value g) → (w : Objects)
    → w ≡ with_edit c.args.device.birth (with_slot (property_name c.args.row.name) (filled_with c.args.fill (Plain (first_value c.args.kind c.in-Plain.first))))
    c.args.heap.now
    → w ≡ with_edit c.args.device.birth (with_slot (property_name c.args.row.name) (filled_with (value_alone c.args.fill)
    (Plain (first_value c.args.kind c.in-Plain.first)))) c.args.heap.now
added g c w is = is ∙ ap (λ (s : Slot). with_edit c.args.device.birth (with_slot (property_name c.args.row.name) s) c.args.heap.now)
    (fills-plain c.args.fill (first_value c.args.kind c.in-Plain.first))

pub returns-in-Plain-clause-ok : goal.returns-in-Plain-clause-ok
returns-in-Plain-clause-ok g c =
    on_ok_weaker c.add_value.result
    (λ is. slot-shown c.args.heap.now c.add_value.new.heap c.args.device c.args.kind c.args.row c.args.fill (Plain (first_value c.args.kind c.in-Plain.first))
    (valued g c) (added g c c.add_value.new.heap is))
    c.add_value.ensures.ok

pub returns-in-Plain-clause-own : goal.returns-in-Plain-clause-own
returns-in-Plain-clause-own g c =
    on_ok_weaker c.add_value.result
    (λ is. slot-own c.args.heap.now c.add_value.new.heap c.args.device c.args.kind c.args.row c.args.fill (Plain (first_value c.args.kind c.in-Plain.first))
    (valued g c) (added g c c.add_value.new.heap is) c.requires.live)
    c.add_value.ensures.ok

pub returns-in-Plain-clause-grows : goal.returns-in-Plain-clause-grows
returns-in-Plain-clause-grows g c =
    grows-either c.add_value.result c.args.heap.now c.add_value.new.heap
    (on_ok_weaker c.add_value.result
    (λ is. slot-grows c.args.heap.now c.add_value.new.heap c.args.device c.args.kind c.args.row c.args.fill (Plain (first_value c.args.kind c.in-Plain.first))
    (valued g c) (added g c c.add_value.new.heap is))
    c.add_value.ensures.ok)
    c.add_value.ensures.err

linked : (g : _) (c : goal.Joined-fill-3 g) → begun c.args.kind c.args.row.role ≡ Some (Link c.in-Link.ty c.in-Link.strong None)
linked g c = ap (begun c.args.kind) c.in-Link.is

joined : (g : _) (c : goal.Joined-fill-3 g) → c.add_link.new.self
    ≡ with_edit c.args.device.birth
    (with_slot (property_name c.args.row.name) (filled_with (value_alone c.args.fill) (Link c.in-Link.ty c.in-Link.strong None)))
    c.args.heap.now
joined g c =
    c.in_ok-add_link-in-Link.ensures.added
    ∙ ap (λ (name : List ℕ). with_edit c.args.device.birth (with_slot name (Link c.in-Link.ty c.in-Link.strong None)) c.args.heap.now) c.row.ensures
    ∙ ap (λ (s : Slot). with_edit c.args.device.birth (with_slot (property_name c.args.row.name) s) c.args.heap.now)
    (leaves-link c.args.fill c.in-Link.ty c.in-Link.strong None)

pub returns-in_ok-add_link-in-Link-clause-ok : goal.returns-in_ok-add_link-in-Link-clause-ok
returns-in_ok-add_link-in-Link-clause-ok g c =
    slot-shown c.args.heap.now c.add_link.new.self c.args.device c.args.kind c.args.row c.args.fill (Link c.in-Link.ty c.in-Link.strong None) (linked g c)
    (joined g c)

pub returns-in_ok-add_link-in-Link-clause-own : goal.returns-in_ok-add_link-in-Link-clause-own
returns-in_ok-add_link-in-Link-clause-own g c =
    slot-own c.args.heap.now c.add_link.new.self c.args.device c.args.kind c.args.row c.args.fill (Link c.in-Link.ty c.in-Link.strong None) (linked g c)
    (joined g c) c.requires.live

pub returns-in_ok-add_link-in-Link-clause-grows : goal.returns-in_ok-add_link-in-Link-clause-grows
returns-in_ok-add_link-in-Link-clause-grows g c =
    slot-grows c.args.heap.now c.add_link.new.self c.args.device c.args.kind c.args.row c.args.fill (Link c.in-Link.ty c.in-Link.strong None) (linked g c)
    (joined g c)

pub returns-in-Child-clause-ok : goal.returns-in-Child-clause-ok
returns-in-Child-clause-ok g c =
    on_ok_weaker c.make_kid.result
    (λ makes b props told. kid-given b props c.args.heap.now c.make_kid.new.heap c.args.device c.args.kind c.in-Child.further c.args.row c.in-Child.is
    c.reveal_invariant.ensures c.requires.live makes)
    c.make_kid.ensures.ok

pub returns-in-Alias-clause-ok : goal.returns-in-Alias-clause-ok
returns-in-Alias-clause-ok g c =
    on_ok_weaker c.make_alias.result
    (λ makes b props told. alias-given b props c.args.heap.now c.make_alias.new.heap c.args.device.birth c.args.kind c.args.row c.in-Alias.child c.in-Alias.of
    c.in-Alias.is makes)
    c.make_alias.ensures.ok
