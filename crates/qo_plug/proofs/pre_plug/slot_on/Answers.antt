-- The least slot that is free in the book is the least free one of the bus.
use Rattle.std.proofs.Common.{ap, ◌∙◌}
use Rattle.qo_claims.specs.Book.{ClaimsTaken}
use Rattle.qo_claims.specs.Lists.{least_free}
use Rattle.qo_model.specs.Plug.{bus_slot_for}
use Rattle.qo_plug.proofs.JudgementLemmas.{least-free, least-within, slot-least}
use Rattle.qo_plug.proofs.pre_plug.slot_on.Goals as goal

pub returns-in-Some-free_slot-clause-slot : goal.returns-in-Some-free_slot-clause-slot
returns-in-Some-free_slot-clause-slot c = λ b t recounted is.
    let found = c.in-Some-free_slot.ensures ∙ ap (λ (h : ClaimsTaken). least_free c.args.bus.birth h.slots) c.book.ensures in
    ap (bus_slot_for b c.args.bus.birth) c.in-None.is ∙ slot-least b c.args.bus.birth c.args.heap.now.claims t recounted is _ found

pub returns-in-None-free_slot-clause-slot : goal.returns-in-None-free_slot-clause-slot
returns-in-None-free_slot-clause-slot c = λ b t recounted is.
    let found = c.in-None-free_slot.ensures ∙ ap (λ (h : ClaimsTaken). least_free c.args.bus.birth h.slots) c.book.ensures in
    ap (bus_slot_for b c.args.bus.birth) c.in-None.is ∙ slot-least b c.args.bus.birth c.args.heap.now.claims t recounted is _ found

pub returns-in-Some-free_slot-clause-within : goal.returns-in-Some-free_slot-clause-within
returns-in-Some-free_slot-clause-within c =
    least-within c.args.bus.birth c.in-Some-free_slot.slot c.args.heap.now.claims
    (c.in-Some-free_slot.ensures ∙ ap (λ (h : ClaimsTaken). least_free c.args.bus.birth h.slots) c.book.ensures)

pub returns-in-Some-free_slot-clause-free : goal.returns-in-Some-free_slot-clause-free
returns-in-Some-free_slot-clause-free c =
    least-free c.args.bus.birth c.in-Some-free_slot.slot c.args.heap.now.claims
    (c.in-Some-free_slot.ensures ∙ ap (λ (h : ClaimsTaken). least_free c.args.bus.birth h.slots) c.book.ensures)
