use Rattle.std.proofs.Common.{true, ◌≡◌, ap, ap₂, sym, subst, ◌∙◌, ℕ, List, Option, Some, option_map}
use Rattle.qo_events.specs.Queue.{Waiting}
use Rattle.qo_object.specs.Content.{Content, reference_count}
use Rattle.qo_object.specs.declared.objects.FinalizedParts.{FinalizedParts}
use Rattle.qo_heap.specs.Log.{noted_all}
use Rattle.qo_heap.specs.Objects.{content_of, ended, final_notes, with_kept_event, without_device, without_kept}
use Rattle.qo_heap.specs.WeakEnds.{weak_ends}
use Rattle.qo_heap.specs.WeakLists.{HasWeakLists}
use Rattle.qo_heap.proofs.EndLemmas.{path-place, places-ended}
use Rattle.qo_heap.proofs.InsideObjects.{ended-inside, entries, objects_inside, read-there}
use Rattle.qo_heap.proofs.WeakEnds.{lists-left, none-forgets, none-left}
use Rattle.qo_heap.proofs.heap.Heap.remove.Goals as goal

pub tell_deleted-requires : goal.tell_deleted-requires
tell_deleted-requires g c =
    rw c.into_finalized_parts-kind.ensures
    (path-place (objects_inside c.self.inside) c.self.invariant.0.0 c.self.invariant.0.1 c.args.o.birth c.take_object.result c.take_object.ensures.object)

pub invariant_of-self : goal.invariant_of-self
invariant_of-self g c =
    let told : Option (List ℕ) → Option (List ℕ) → ℕ =
    λ id path. (with_kept_event (option_map (λ (p : List ℕ). record { deleted = true; id = id; path = p }) path) c.self.inside.events).promised in
    let same : told c.free_all-id.result c.into_finalized_parts-kind.result.path ≡ told c.take_object.result.device_id c.take_object.result.kept_path = ap₂ told
    (c.free_all-id.ensures.id ∙ ap (λ (r : FinalizedParts). r.id) c.into_finalized_parts-kind.ensures)
    (ap (λ (r : FinalizedParts). r.path) c.into_finalized_parts-kind.ensures) in
    let places = ap (λ (w : Waiting). w.promised) c.tell_deleted.ensures ∙ same
    ∙ places-ended (objects_inside c.self.inside) c.self.invariant.0.0 c.self.invariant.0.1 c.args.o.birth c.take_object.result c.take_object.ensures.object in
    let bare = read-there reference_count (content_of (objects_inside c.self.inside) c.args.o.birth) c.take_object.result 0 c.take_object.ensures.object
    (rw (← c.self.view_is) at c.requires.bare) in
    let alone : weak_ends c.args.o.birth (objects_inside c.self.inside).rows ≡ 0 = rw (← c.self.view_is) at c.requires.alone in
    let ended = ended-inside c.self.inside c.self.invariant c.args.o (rw (← c.self.view_is) at c.requires.free) c.take_object.result
    c.take_object.ensures.object bare c.take_object.new.table c.take_object.new.order.items
    (c.take_object.ensures.kept ∙ none-left c.args.o.birth (entries c.self.inside) alone) c.take_object.ensures.born
    (subst HasWeakLists (sym c.take_object.ensures.kept) (lists-left c.args.o.birth (entries c.self.inside) c.self.invariant.1.1.1.0 alone))
    c.free_all-id.new.claims c.tell_deleted.new.events places in
    (ended.0, (c.take_object.ensures.ordered, (ended.1.0, (ended.1.1, c.self.invariant.1.1.1.1))))

pub returns-clause-now : goal.returns-clause-now
returns-clause-now g c =
    let v = objects_inside c.self.inside in
    let n = c.args.o.birth in
    let r = c.take_object.result in
    let parts = c.into_finalized_parts-kind.ensures in
    let alone : weak_ends n v.rows ≡ 0 = rw (← c.self.view_is) at c.requires.alone in
    let rows = c.take_object.ensures.rest ∙ none-forgets n v.rows alone in
    let kind = ap (λ (p : FinalizedParts). p.kind) parts in
    let claims = c.free_all-id.ensures.free
    ∙ ap (λ (p : FinalizedParts). without_device p.id (without_kept p.kept c.self.inside.claims)) parts in
    let events = c.tell_deleted.ensures
    ∙ ap₂ (λ (id path : Option (List ℕ)). with_kept_event (option_map (λ (p : List ℕ). record { deleted = true; id = id; path = p }) path) c.self.inside.events)
    (c.free_all-id.ensures.id ∙ ap (λ (p : FinalizedParts). p.id) parts) (ap (λ (p : FinalizedParts). p.path) parts) in
    let left : c.note_end.new.self ≡ ended n r v = c.note_end.ensures
    ∙ (λ j. record v { rows = rows j; born = c.take_object.ensures.born j; log = noted_all (final_notes n (kind j)) v.log; claims = claims j; events = events j }) in
    rw (← c.self.view_is) (ap (option_map (λ (x : Content). ended n x v)) c.take_object.ensures.object ∙ ap Some (sym left))
