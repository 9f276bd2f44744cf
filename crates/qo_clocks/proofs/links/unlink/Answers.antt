use Rattle.std.proofs.Common.{◌≡◌, ◌∙◌, Some, true, false, sym, slice_get}
use Rattle.std.specs.Str.{bytes_eq}
use Rattle.qo_object.specs.Slots.{Named}
use Rattle.qo_heap.specs.Objects.{slots_of}
use Rattle.qo_values.proofs.ListLemmas.{position-find}
use Rattle.qo_model.specs.RowNames.{property_name}
use Rattle.qo_clocks.specs.Links.{is_weak, index_on}
use Rattle.qo_clocks.proofs.LinkLemmas.{unlinks, unlinks-not}
use Rattle.qo_clocks.proofs.links.unlink.Goals as goal

pub returns-then-is_weak : goal.returns-then-is_weak
returns-then-is_weak g c =
    let at : index_on c.args.heap.now c.args.c.birth (property_name c.args.name) ≡ Some c.in-Some.link.at = sym c.in-Some.ensures.at in
    let there : slice_get (slots_of c.args.heap.now c.args.c.birth) c.in-Some.link.at ≡ Some (c.in-Some.link.name.now, c.in-Some.link.what.now) =
    position-find (λ (s : Named). bytes_eq (property_name c.args.name) s.0) (slots_of c.args.heap.now c.args.c.birth) c.in-Some.link.at at ∙ sym c.in-Some.ensures.slot in
    let weak : is_weak c.in-Some.link.what.now ≡ true = sym c.is_weak.ensures ∙ c.if-is_weak.true in
    c.empty-source.ensures.now
    ∙ unlinks c.args.heap.now c.reveal_invariant.ensures c.args.c.birth (property_name c.args.name) c.in-Some.link.at (c.in-Some.link.name.now, c.in-Some.link.what.now)
    at there weak

pub returns-else-is_weak : goal.returns-else-is_weak
returns-else-is_weak g c =
    let at : index_on c.args.heap.now c.args.c.birth (property_name c.args.name) ≡ Some c.in-Some.link.at = sym c.in-Some.ensures.at in
    let there : slice_get (slots_of c.args.heap.now c.args.c.birth) c.in-Some.link.at ≡ Some (c.in-Some.link.name.now, c.in-Some.link.what.now) =
    position-find (λ (s : Named). bytes_eq (property_name c.args.name) s.0) (slots_of c.args.heap.now c.args.c.birth) c.in-Some.link.at at ∙ sym c.in-Some.ensures.slot in
    let weak : is_weak c.in-Some.link.what.now ≡ false = sym c.is_weak.ensures ∙ c.if-is_weak.false in
    unlinks-not c.args.heap.now c.reveal_invariant.ensures c.args.c.birth (property_name c.args.name) c.in-Some.link.at (c.in-Some.link.name.now, c.in-Some.link.what.now)
    at there
    weak
