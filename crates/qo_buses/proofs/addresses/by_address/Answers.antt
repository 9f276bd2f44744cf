-- Where the bus is not there, no device is found from it.
use Rattle.std.proofs.Common.{◌≡◌, None, rules}
use Rattle.qo_buses.proofs.SlotLemmas.{found-gone, kid-gone}
use Rattle.qo_buses.proofs.addresses.by_address.Goals as goal

pub returns-in_err-root-in-Slots-clause-found : goal.returns-in_err-root-in-Slots-clause-found
returns-in_err-root-in-Slots-clause-found g c = λ b s.
    let none : c.from_residual.result ≡ None = search rules in
    rw (none, c.in-Slots.is) (found-gone b c.args.heap.now s 6 c.in-Slots.slots c.in_err-root-in-Slots.ensures.none)

pub returns-in_err-bus-in-Mem-clause-found : goal.returns-in_err-bus-in-Mem-clause-found
returns-in_err-bus-in-Mem-clause-found g c = λ b s.
    let none : c.from_residual-in_err-bus-in-Mem.result ≡ None = search rules in
    rw (none, c.in-Mem.is) (kid-gone b c.args.heap.now s 7 c.in-Mem.slot c.in_err-bus-in-Mem.ensures.none)
