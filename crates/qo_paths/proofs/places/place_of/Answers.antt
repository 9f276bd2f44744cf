-- The place is that under the parent.
use Rattle.std.proofs.Common.{◌≡◌, Some, None, sym, rules}
use Rattle.qo_heap.specs.Objects.{parent_of}
use Rattle.qo_heap.proofs.HeapLemmas.{parent-live}
use Rattle.qo_paths.proofs.PlaceLemmas.{place-is, place-none}
use Rattle.qo_paths.proofs.places.place_of.Goals as goal

pub returns-in_err-parent : goal.returns-in_err-parent
returns-in_err-parent g c = λ b s.
    let gone : parent_of c.args.heap.now c.args.o.birth ≡ None = search rules in
    let none : c.from_residual.result ≡ None = search rules in
    rw none (sym (place-none b c.args.heap.now s c.args.o.birth gone))

pub child_slot-requires : goal.child_slot-requires
child_slot-requires g c = parent-live c.args.heap.now c.reveal_invariant.ensures c.args.o.birth c.in_ok-parent.parent (sym c.in_ok-parent.ensures.parent)

pub returns-in_err-slot : goal.returns-in_err-slot
returns-in_err-slot g c = λ b s.
    let none : c.from_residual-in_err-slot.result ≡ None = search rules in
    rw none
    (sym (place-is b c.args.heap.now s c.reveal_invariant.ensures c.args.o.birth c.in_ok-parent.parent (sym c.in_ok-parent.ensures.parent) None
    c.in_err-slot.ensures.slot))

pub returns : goal.returns
returns g c = λ b s.
    sym (place-is b c.args.heap.now s c.reveal_invariant.ensures c.args.o.birth c.in_ok-parent.parent (sym c.in_ok-parent.ensures.parent)
    (Some (c.in_ok-slot.slot.name.now, c.in_ok-slot.slot.what.now)) c.in_ok-slot.ensures.slot)
