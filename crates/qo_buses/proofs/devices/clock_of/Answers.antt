-- The clock is the child of that name, and it is there.
use Rattle.std.proofs.Common.{◌≡◌, Some, None, codes, sym, ◌∙◌, rules}
use Rattle.std.specs.Str.{bytes_eq}
use Rattle.qo_heap.specs.Rows.{IsLive}
use Rattle.qo_object.specs.Slots.{Named}
use Rattle.qo_model.specs.Devices.{child_named}
use Rattle.qo_heap.proofs.HeapLemmas.{target-live}
use Rattle.qo_buses.proofs.SlotLemmas.{read-named, same-named}
use Rattle.qo_buses.proofs.devices.clock_of.Goals as goal

pub returns-in_err-slot-clause-clock : goal.returns-in_err-slot-clause-clock
returns-in_err-slot-clause-clock g c = λ b s.
    let none : c.from_residual.result ≡ None = search rules in
    rw none (sym (read-named child_named b c.args.heap.now s c.args.dev.birth (codes "clk") None c.in_err-slot.ensures.slot))

pub returns-clause-clock : goal.returns-clause-clock
returns-clause-clock g c = λ b s.
    c.child_in.ensures.child
    ∙ sym (read-named child_named b c.args.heap.now s c.args.dev.birth (codes "clk") (Some (c.in_ok-slot.slot.name.now, c.in_ok-slot.slot.what.now))
    c.in_ok-slot.ensures.slot)

pub returns-clause-live : goal.returns-clause-live
returns-clause-live g c =
    same-named (IsLive c.args.heap.now.rows) c.in_ok-slot.slot.what.now c.child_in.result c.child_in.ensures.named
    (target-live c.args.heap.now c.reveal_invariant.ensures c.args.dev.birth (λ (t : Named). bytes_eq (codes "clk") t.0)
    (c.in_ok-slot.slot.name.now, c.in_ok-slot.slot.what.now) c.in_ok-slot.ensures.slot)
