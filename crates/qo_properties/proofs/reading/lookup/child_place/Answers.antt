-- The one slot of the name is the place, where a child stands in it.
use Rattle.std.proofs.Common.{rules, ◌≡◌, sym, ◌∙◌, None}
use Rattle.qo_heap.specs.Objects.{slots_of}
use Rattle.qo_properties.proofs.LookupLemmas.{child-absent, child-other, child-place}
use Rattle.qo_properties.proofs.reading.lookup.child_place.Goals as goal

pub returns-in_err-slot-clause-place : goal.returns-in_err-slot-clause-place
returns-in_err-slot-clause-place g c =
    let none : c.from_residual.result ≡ None = search rules in
    none ∙ sym (child-absent c.args.id.now 0 (slots_of c.args.heap.now c.args.o.birth) (sym c.in_err-slot.ensures.slot))

pub returns-then-is_child-clause-place : goal.returns-then-is_child-clause-place
returns-then-is_child-clause-place g c =
    c.in_ok-slot.ensures.at
    ∙ sym (child-place c.args.id.now (slots_of c.args.heap.now c.args.o.birth) c.in_ok-slot.slot.name.now c.in_ok-slot.slot.what.now
    (sym c.in_ok-slot.ensures.slot) (sym c.is_child.ensures ∙ c.if-is_child.true))

pub returns-clause-place : goal.returns-clause-place
returns-clause-place g c =
    sym (child-other c.args.id.now 0 (slots_of c.args.heap.now c.args.o.birth) c.in_ok-slot.slot.name.now c.in_ok-slot.slot.what.now
    c.in_ok-slot.ensures.names (sym c.in_ok-slot.ensures.slot) (sym c.is_child.ensures ∙ c.if-is_child.false))
