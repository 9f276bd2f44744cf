use Rattle.std.proofs.Common.{◌≡◌, ◌∙◌, Some, true, false, sym, slice_get}
use Rattle.std.specs.Str.{bytes_eq}
use Rattle.qo_object.specs.Slots.{Named}
use Rattle.qo_heap.specs.Objects.{slots_of}
use Rattle.qo_values.proofs.ListLemmas.{position-find}
use Rattle.qo_model.specs.RowNames.{property_name}
use Rattle.qo_clocks.specs.Links.{accepts, index_on}
use Rattle.qo_clocks.proofs.LinkLemmas.{connects, connects-not, empty-there}
use Rattle.qo_clocks.proofs.links.link.Goals as goal

pub point-requires-clause-link : goal.point-requires-clause-link
point-requires-clause-link g c =
    let at : index_on c.args.heap.now c.args.c.birth (property_name c.args.name) ≡ Some c.in-Some.link.at = sym c.in-Some.ensures.at in
    let there : slice_get (slots_of c.args.heap.now c.args.c.birth) c.in-Some.link.at ≡ Some (c.in-Some.link.name.now, c.in-Some.link.what.now) =
    position-find (λ (s : Named). bytes_eq (property_name c.args.name) s.0) (slots_of c.args.heap.now c.args.c.birth) c.in-Some.link.at at ∙ sym c.in-Some.ensures.slot in
    let fits : accepts c.args.heap.now c.args.target c.in-Some.link.what.now ≡ true = sym c.accepts.ensures ∙ c.if-accepts.true in
    empty-there c.args.heap.now c.args.c.birth c.args.target c.in-Some.link.at (c.in-Some.link.name.now, c.in-Some.link.what.now) there fits

pub returns-then-accepts : goal.returns-then-accepts
returns-then-accepts g c =
    let at : index_on c.args.heap.now c.args.c.birth (property_name c.args.name) ≡ Some c.in-Some.link.at = sym c.in-Some.ensures.at in
    let there : slice_get (slots_of c.args.heap.now c.args.c.birth) c.in-Some.link.at ≡ Some (c.in-Some.link.name.now, c.in-Some.link.what.now) =
    position-find (λ (s : Named). bytes_eq (property_name c.args.name) s.0) (slots_of c.args.heap.now c.args.c.birth) c.in-Some.link.at at ∙ sym c.in-Some.ensures.slot in
    let fits : accepts c.args.heap.now c.args.target c.in-Some.link.what.now ≡ true = sym c.accepts.ensures ∙ c.if-accepts.true in
    c.point.ensures.now
    ∙ connects c.args.heap.now c.reveal_invariant.ensures c.args.c.birth (property_name c.args.name) c.args.target c.in-Some.link.at
    (c.in-Some.link.name.now, c.in-Some.link.what.now)
    at there fits

pub returns-else-accepts : goal.returns-else-accepts
returns-else-accepts g c =
    let at : index_on c.args.heap.now c.args.c.birth (property_name c.args.name) ≡ Some c.in-Some.link.at = sym c.in-Some.ensures.at in
    let there : slice_get (slots_of c.args.heap.now c.args.c.birth) c.in-Some.link.at ≡ Some (c.in-Some.link.name.now, c.in-Some.link.what.now) =
    position-find (λ (s : Named). bytes_eq (property_name c.args.name) s.0) (slots_of c.args.heap.now c.args.c.birth) c.in-Some.link.at at ∙ sym c.in-Some.ensures.slot in
    let fits : accepts c.args.heap.now c.args.target c.in-Some.link.what.now ≡ false = sym c.accepts.ensures ∙ c.if-accepts.false in
    connects-not c.args.heap.now c.reveal_invariant.ensures c.args.c.birth (property_name c.args.name) c.args.target c.in-Some.link.at
    (c.in-Some.link.name.now, c.in-Some.link.what.now) at there fits
