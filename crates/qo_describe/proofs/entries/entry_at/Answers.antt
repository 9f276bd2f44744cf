-- What stands in the slot is read, and what it names is there.
use Rattle.std.proofs.Common.{◌≡◌, Some, None, sym, ◌∙◌, ap, rules}
use Rattle.qo_heap.proofs.HeapLemmas.{slot-live}
use Rattle.qo_object.specs.BoardObject.{shown_slot}
use Rattle.qo_buses.proofs.SlotLemmas.{read-at}
use Rattle.qo_sound_devices.specs.SoundPlaces.{child_entry}
use Rattle.qo_describe.proofs.EntryLemmas.{no-child}
use Rattle.qo_describe.proofs.entries.entry_at.Goals as goal

pub returns-in_err-slot-clause-child : goal.returns-in_err-slot-clause-child
returns-in_err-slot-clause-child g c = λ b s.
    let none : c.from_residual.result ≡ None = search rules in
    rw none (sym (read-at child_entry b c.args.heap.now s c.args.o.birth c.args.at None c.in_err-slot.ensures.slot))

pub returns-in-Child-clause-child : goal.returns-in-Child-clause-child
returns-in-Child-clause-child g c = λ b s.
    sym (read-at child_entry b c.args.heap.now s c.args.o.birth c.args.at (Some (c.in_ok-slot.slot.name.now, c.in_ok-slot.slot.what.now))
    c.in_ok-slot.ensures.slot ∙ ap (λ what. child_entry (c.in_ok-slot.slot.name.now, shown_slot what)) c.in-Child.is)

pub returns-in-Child-clause-live : goal.returns-in-Child-clause-live
returns-in-Child-clause-live g c =
    let there = slot-live c.args.heap.now c.reveal_invariant.ensures c.args.o.birth c.args.at (c.in_ok-slot.slot.name.now, c.in_ok-slot.slot.what.now)
    c.in_ok-slot.ensures.slot in
    rw c.in-Child.is at there

pub returns-in_default : goal.returns-in_default
returns-in_default g c =
    record {
      child = λ b s.
          sym (read-at child_entry b c.args.heap.now s c.args.o.birth c.args.at (Some (c.in_ok-slot.slot.name.now, c.in_ok-slot.slot.what.now))
          c.in_ok-slot.ensures.slot ∙ no-child c.in_ok-slot.slot.name.now c.in_ok-slot.slot.what.now c.in_default.not-Child);
      live = tt;
    }
