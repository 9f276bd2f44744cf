-- The slot tells whether it has a value, and the row whether it is one of those.
use Rattle.std.proofs.Common.{ap, sym, ◌∙◌, None, Some}
use Rattle.qo_model.specs.Board.{plain}
use Rattle.qo_model.specs.ClockProperties.{in_slot, set_row}
use Rattle.qo_object.specs.declared.slots.Slot.{Slot}
use Rattle.qo_object.specs.BoardObject.{shown_slot}
use Rattle.qo_properties.proofs.ClockLemmas.{in-other, own-is}
use Rattle.qo_properties.proofs.writing.clocks.own_property.Goals as goal

pub returns-in_default-clause-property : goal.returns-in_default-clause-property
returns-in_default-clause-property g c = λ b s. sym (own-is b c.args.heap.now s c.args.o.birth c.args.name.now None c.in_default.ensures.slot)

pub returns-in_default-what-clause-property : goal.returns-in_default-what-clause-property
returns-in_default-what-clause-property g c = λ b s.
    let n = c.args.o.birth in
    let name = c.args.name.now in
    sym
    (own-is b c.args.heap.now s n name (Some (c.in-Some.slot.name.now, c.in-Some.slot.what.now)) c.in-Some.ensures.slot
    ∙ in-other n c.in-Some.slot.what.now (set_row b n name) c.in_default-what.not-Plain)

pub returns-in-Some-set_row-clause-property : goal.returns-in-Some-set_row-clause-property
returns-in-Some-set_row-clause-property g c = λ b s.
    let n = c.args.o.birth in
    let name = c.args.name.now in
    sym
    (own-is b c.args.heap.now s n name (Some (c.in-Some.slot.name.now, c.in-Some.slot.what.now)) c.in-Some.ensures.slot
    ∙ ap (λ (x : Slot). in_slot n (shown_slot x) (set_row b n name)) c.in-Plain.is
    ∙ ap (in_slot n (plain c.in-Plain.field-0)) (sym (c.in-Some-set_row.ensures b s)))

pub returns-in-None-clause-property : goal.returns-in-None-clause-property
returns-in-None-clause-property g c = λ b s.
    let n = c.args.o.birth in
    let name = c.args.name.now in
    sym
    (own-is b c.args.heap.now s n name (Some (c.in-Some.slot.name.now, c.in-Some.slot.what.now)) c.in-Some.ensures.slot
    ∙ ap (λ (x : Slot). in_slot n (shown_slot x) (set_row b n name)) c.in-Plain.is
    ∙ ap (in_slot n (plain c.in-Plain.field-0)) (sym (c.in-None.ensures b s)))
