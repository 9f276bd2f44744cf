-- What is found by name is read, and what it names is there.
use Rattle.std.proofs.Common.{◌≡◌, Some, None, sym, ◌∙◌, rules}
use Rattle.std.specs.Str.{bytes_eq}
use Rattle.qo_heap.specs.Rows.{IsLive}
use Rattle.qo_object.specs.Slots.{Named}
use Rattle.qo_model.specs.Devices.{strong_in}
use Rattle.qo_heap.proofs.HeapLemmas.{target-live}
use Rattle.qo_model.specs.RowNames.{property_name}
use Rattle.qo_buses.proofs.SlotLemmas.{read-named, same-named}
use Rattle.qo_buses.proofs.slots.strong_at.Goals as goal

pub returns-in_err-slot-clause-target : goal.returns-in_err-slot-clause-target
returns-in_err-slot-clause-target g c = λ b s.
    let none : c.from_residual.result ≡ None = search rules in
    rw none (sym (read-named strong_in b c.args.heap.now s c.args.o.birth (property_name c.args.name) None c.in_err-slot.ensures.slot))

pub returns-clause-target : goal.returns-clause-target
returns-clause-target g c = λ b s.
    c.strong_in.ensures.target
    ∙ sym (read-named strong_in b c.args.heap.now s c.args.o.birth (property_name c.args.name) (Some (c.in_ok-slot.slot.name.now, c.in_ok-slot.slot.what.now))
    c.in_ok-slot.ensures.slot)

pub returns-clause-live : goal.returns-clause-live
returns-clause-live g c =
    same-named (IsLive c.args.heap.now.rows) c.in_ok-slot.slot.what.now c.strong_in.result c.strong_in.ensures.named
    (target-live c.args.heap.now c.reveal_invariant.ensures c.args.o.birth (λ (t : Named). bytes_eq (property_name c.args.name) t.0)
    (c.in_ok-slot.slot.name.now, c.in_ok-slot.slot.what.now) c.in_ok-slot.ensures.slot)
