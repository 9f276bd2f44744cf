-- What stands under the name is a child, or is none.
use Rattle.std.proofs.Common.{◌≡◌, ap, sym, ◌∙◌, Some, None, rules}
use Rattle.std.specs.Option.{option_and_then}
use Rattle.qo_model.specs.Devices.{child_named}
use Rattle.qo_model.specs.RowNames.{property_name}
use Rattle.qo_object.specs.BoardObject.{shown_slot}
use Rattle.qo_object.specs.declared.slots.Slot.{Slot}
use Rattle.qo_properties.proofs.ReadLemmas.{named-is}
use Rattle.qo_plug.proofs.DraftLemmas.{no-child}
use Rattle.qo_plug.proofs.drafting.child_named.Goals as goal

pub returns-in_err-slot : goal.returns-in_err-slot
returns-in_err-slot g c = λ b s.
    let none : c.from_residual.result ≡ None = search rules in
    rw none (sym (ap (option_and_then child_named)
    (named-is b c.args.heap.now s c.args.o.birth (property_name c.args.name) None c.in_err-slot.ensures.slot)))

pub returns-in-Child : goal.returns-in-Child
returns-in-Child g c = λ b s.
    sym (ap (option_and_then child_named)
    (named-is b c.args.heap.now s c.args.o.birth (property_name c.args.name)
    (Some (c.in_ok-slot.slot.name.now, c.in_ok-slot.slot.what.now)) c.in_ok-slot.ensures.slot)
    ∙ ap (λ (x : Slot). child_named (shown_slot x)) c.in-Child.is)

pub returns-in_default : goal.returns-in_default
returns-in_default g c = λ b s.
    sym (ap (option_and_then child_named)
    (named-is b c.args.heap.now s c.args.o.birth (property_name c.args.name)
    (Some (c.in_ok-slot.slot.name.now, c.in_ok-slot.slot.what.now)) c.in_ok-slot.ensures.slot)
    ∙ no-child c.in_ok-slot.slot.what.now c.in_default.not-Child)
