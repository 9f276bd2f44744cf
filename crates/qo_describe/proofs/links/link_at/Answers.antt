-- What stands in the slot is read, and what it names is there.
use Rattle.std.proofs.Common.{◌≡◌, Some, None, true, false, sym, ◌∙◌, rules}
use Rattle.qo_heap.proofs.HeapLemmas.{slot-live}
use Rattle.qo_object.specs.BoardObject.{shown_slot}
use Rattle.qo_buses.proofs.SlotLemmas.{read-at}
use Rattle.qo_describe.specs.Told.{link_entry}
use Rattle.qo_describe.proofs.ValueLemmas.{its-link, no-target, not-set}
use Rattle.qo_describe.proofs.links.link_at.Goals as goal

pub returns-in_err-slot-clause-link : goal.returns-in_err-slot-clause-link
returns-in_err-slot-clause-link g c = λ b s.
    let none : c.from_residual.result ≡ None = search rules in
    rw none (sym (read-at (link_entry b c.args.o.birth) b c.args.heap.now s c.args.o.birth c.args.at None c.in_err-slot.ensures.slot))

pub returns-in_err-target-clause-link : goal.returns-in_err-target-clause-link
returns-in_err-target-clause-link g c = λ b s.
    let none : c.from_residual-in_err-target.result ≡ None = search rules in
    rw none
    (sym (read-at (link_entry b c.args.o.birth) b c.args.heap.now s c.args.o.birth c.args.at (Some (c.in_ok-slot.slot.name.now, c.in_ok-slot.slot.what.now))
    c.in_ok-slot.ensures.slot ∙ no-target b c.args.o.birth c.in_ok-slot.slot.name.now (shown_slot c.in_ok-slot.slot.what.now) c.in_err-target.ensures.linked))

pub returns-then-is_set : goal.returns-then-is_set
returns-then-is_set g c =
    let there = slot-live c.args.heap.now c.reveal_invariant.ensures c.args.o.birth c.args.at (c.in_ok-slot.slot.name.now, c.in_ok-slot.slot.what.now)
    c.in_ok-slot.ensures.slot in
    record {
      link = λ b s.
          let set : c.is_set.result ≡ true = search rules in
          sym (read-at (link_entry b c.args.o.birth) b c.args.heap.now s c.args.o.birth c.args.at
          (Some (c.in_ok-slot.slot.name.now, c.in_ok-slot.slot.what.now))
          c.in_ok-slot.ensures.slot ∙ its-link b c.args.o.birth c.in_ok-slot.slot.name.now (shown_slot c.in_ok-slot.slot.what.now) c.in_ok-target.target.birth
          c.in_ok-target.ensures.linked (sym (c.is_set.ensures b s) ∙ set));
      live = rw c.in_ok-target.ensures.named at there;
    }

pub returns-clause-link : goal.returns-clause-link
returns-clause-link g c = λ b s.
    let unset : c.is_set.result ≡ false = search rules in
    sym (read-at (link_entry b c.args.o.birth) b c.args.heap.now s c.args.o.birth c.args.at (Some (c.in_ok-slot.slot.name.now, c.in_ok-slot.slot.what.now))
    c.in_ok-slot.ensures.slot
    ∙ not-set b c.args.o.birth c.in_ok-slot.slot.name.now (shown_slot c.in_ok-slot.slot.what.now) (sym (c.is_set.ensures b s) ∙ unset))
