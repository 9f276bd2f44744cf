-- The slot tells whether it is an alias, and what that passes on to.
use Rattle.std.proofs.Common.{ap, sym, ◌∙◌, ℕ, None, Some}
use Rattle.qo_model.specs.ClockProperties.{led_by, own_property}
use Rattle.qo_object.specs.declared.slots.Slot.{Slot}
use Rattle.qo_object.specs.BoardObject.{shown_slot}
use Rattle.qo_properties.proofs.ClockLemmas.{led-is, led-own, own-gone}
use Rattle.qo_properties.proofs.writing.clocks.led_to.Goals as goal

pub returns-in_default-clause-property : goal.returns-in_default-clause-property
returns-in_default-clause-property g c = λ b s. sym (led-is b c.args.heap.now s c.args.o.birth c.args.name.now None c.in_default.ensures.slot)

pub returns-in_default-what : goal.returns-in_default-what
returns-in_default-what g c =
    record {
      property = λ b s.
          c.own_property.ensures.property b s
          ∙ sym
          (led-is b c.args.heap.now s c.args.o.birth c.args.name.now (Some (c.in-Some.slot.name.now, c.in-Some.slot.what.now)) c.in-Some.ensures.slot
          ∙ led-own b c.args.o.birth c.args.name.now c.in-Some.slot.what.now (λ key of e. c.in_default-what.not-Alias key of e));
      live = c.own_property.ensures.live;
    }

pub returns-in-Some-object_of-clause-property : goal.returns-in-Some-object_of-clause-property
returns-in-Some-object_of-clause-property g c = λ b s.
    let n = c.args.o.birth in
    let name = c.args.name.now in
    c.own_property-in-Some-object_of.ensures.property b s
    ∙ ap (λ (m : ℕ). own_property b m c.as_str.result.now) c.in-Some-object_of.ensures.born
    ∙ ap (own_property b c.in-Alias.target.birth) c.as_str.ensures.value
    ∙ sym
    (led-is b c.args.heap.now s n name (Some (c.in-Some.slot.name.now, c.in-Some.slot.what.now)) c.in-Some.ensures.slot
    ∙ ap (λ (x : Slot). led_by b n name (shown_slot x)) c.in-Alias.is)

pub returns-in-None-clause-property : goal.returns-in-None-clause-property
returns-in-None-clause-property g c = λ b s.
    let n = c.args.o.birth in
    let name = c.args.name.now in
    sym
    (led-is b c.args.heap.now s n name (Some (c.in-Some.slot.name.now, c.in-Some.slot.what.now)) c.in-Some.ensures.slot
    ∙ ap (λ (x : Slot). led_by b n name (shown_slot x)) c.in-Alias.is
    ∙ own-gone b c.args.heap.now s c.in-Alias.target.birth c.in-Alias.of c.in-None.ensures.none)
