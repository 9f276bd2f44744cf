-- What is found by name is read.
use Rattle.std.proofs.Common.{◌≡◌, Some, None, sym, ◌∙◌, rules}
use Rattle.qo_model.specs.Devices.{plain_in}
use Rattle.qo_model.specs.RowNames.{property_name}
use Rattle.qo_buses.proofs.SlotLemmas.{read-named}
use Rattle.qo_buses.proofs.slots.plain_at.Goals as goal

pub returns-in_err-slot : goal.returns-in_err-slot
returns-in_err-slot g c = λ b s.
    let none : c.from_residual.result ≡ None = search rules in
    rw none (sym (read-named plain_in b c.args.heap.now s c.args.o.birth (property_name c.args.name) None c.in_err-slot.ensures.slot))

pub returns : goal.returns
returns g c = λ b s.
    c.plain_in.ensures ∙ sym
    (read-named plain_in b c.args.heap.now s c.args.o.birth (property_name c.args.name) (Some (c.in_ok-slot.slot.name.now, c.in_ok-slot.slot.what.now))
    c.in_ok-slot.ensures.slot)
