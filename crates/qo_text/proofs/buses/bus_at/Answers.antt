-- The name of the slot, and the bus in it.
use Rattle.std.proofs.Common.{◌≡◌, Some, None, rules}
use Rattle.std.specs.Prelude.{slice_get}
use Rattle.qo_object.specs.BoardObject.{shown_slot}
use Rattle.qo_model.specs.Board.{slots_at}
use Rattle.qo_buses.proofs.SlotLemmas.{shows-place_at}
use Rattle.qo_text.proofs.BusTextLemmas.{entry-is, entry-none}
use Rattle.qo_text.proofs.buses.bus_at.Goals as goal

pub returns-in_err-slot-clause-bus : goal.returns-in_err-slot-clause-bus
returns-in_err-slot-clause-bus g c = λ b s.
    let none : c.from_residual.result ≡ None = search rules in
    rw none (entry-none b (slice_get (slots_at b c.args.dev.birth) c.args.at)
    (shows-place_at b c.args.heap.now s c.args.dev.birth c.args.at None c.in_err-slot.ensures.slot))

pub returns-in_err-bus-clause-bus : goal.returns-in_err-bus-clause-bus
returns-in_err-bus-clause-bus g c = λ b s.
    let none : c.from_residual-in_err-bus.result ≡ None = search rules in
    rw none (entry-is b (slice_get (slots_at b c.args.dev.birth) c.args.at) c.in_ok-slot.slot.name.now (shown_slot c.in_ok-slot.slot.what.now) None
    (shows-place_at b c.args.heap.now s c.args.dev.birth c.args.at (Some (c.in_ok-slot.slot.name.now, c.in_ok-slot.slot.what.now)) c.in_ok-slot.ensures.slot)
    (c.in_err-bus.ensures.bus b s))

pub returns-clause-bus : goal.returns-clause-bus
returns-clause-bus g c = λ b s.
    entry-is b (slice_get (slots_at b c.args.dev.birth) c.args.at) c.in_ok-slot.slot.name.now (shown_slot c.in_ok-slot.slot.what.now)
    (Some c.in_ok-bus.bus.birth)
    (shows-place_at b c.args.heap.now s c.args.dev.birth c.args.at (Some (c.in_ok-slot.slot.name.now, c.in_ok-slot.slot.what.now)) c.in_ok-slot.ensures.slot)
    (c.in_ok-bus.ensures.bus b s)
