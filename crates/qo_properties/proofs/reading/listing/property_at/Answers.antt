-- A slot is listed by its name and what is told of its type.
use Rattle.std.proofs.Common.{Some, None, ap, sym, ◌∙◌, ℕ, List}
use Rattle.std.proofs.lemmas.Option.{slice_get_within}
use Rattle.qo_heap.specs.Objects.{slots_of}
use Rattle.qo_heap.proofs.HeapLemmas.{slot-live}
use Rattle.qo_properties.proofs.ListLemmas.{line-at}
use Rattle.qo_properties.proofs.reading.listing.property_at.Goals as goal

pub returns-in_default-clause-listed : goal.returns-in_default-clause-listed
returns-in_default-clause-listed g c = λ b s. line-at b c.args.heap.now s c.args.o.birth c.args.at None c.in_default.ensures.slot

pub type_text-ty-requires-clause-target : goal.type_text-ty-requires-clause-target
type_text-ty-requires-clause-target g c =
    slot-live c.args.heap.now c.reveal_invariant.ensures c.args.o.birth c.args.at (c.in-Some.slot.name.now, c.in-Some.slot.what.now) c.in-Some.ensures.slot

pub returns-clause-listed : goal.returns-clause-listed
returns-clause-listed g c = λ b s.
    ap (λ (text : List ℕ). Some (c.in-Some.slot.name.now, text)) (c.type_text-ty.ensures b s)
    ∙ line-at b c.args.heap.now s c.args.o.birth c.args.at (Some (c.in-Some.slot.name.now, c.in-Some.slot.what.now)) c.in-Some.ensures.slot

pub returns-clause-within : goal.returns-clause-within
returns-clause-within g c =
    slice_get_within (slots_of c.args.heap.now c.args.o.birth) c.args.at (c.in-Some.slot.name.now, c.in-Some.slot.what.now) (sym c.in-Some.ensures.slot)
