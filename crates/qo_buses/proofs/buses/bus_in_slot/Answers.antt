-- What stands at the place is read, and what it names is there.
use Rattle.std.proofs.Common.{◌≡◌, Some, None, sym, ◌∙◌, rules}
use Rattle.qo_model.specs.Devices.{bus_in}
use Rattle.qo_heap.proofs.HeapLemmas.{slot-live}
use Rattle.qo_buses.proofs.SlotLemmas.{read-at}
use Rattle.qo_buses.proofs.buses.bus_in_slot.Goals as goal

pub returns-in_err-view-clause-bus : goal.returns-in_err-view-clause-bus
returns-in_err-view-clause-bus g c = λ b s.
    let none : c.from_residual.result ≡ None = search rules in
    rw none (sym (read-at (bus_in b) b c.args.heap.now s c.args.o.birth c.args.at None c.in_err-view.ensures.slot))

pub bus_in-requires : goal.bus_in-requires
bus_in-requires g c =
    slot-live c.args.heap.now c.reveal_invariant.ensures c.args.o.birth c.args.at (c.in_ok-view.view.name.now, c.in_ok-view.view.what.now)
    c.in_ok-view.ensures.slot

pub returns-clause-bus : goal.returns-clause-bus
returns-clause-bus g c = λ b s.
    c.bus_in.ensures.bus b s
    ∙ sym (read-at (bus_in b) b c.args.heap.now s c.args.o.birth c.args.at (Some (c.in_ok-view.view.name.now, c.in_ok-view.view.what.now))
    c.in_ok-view.ensures.slot)
