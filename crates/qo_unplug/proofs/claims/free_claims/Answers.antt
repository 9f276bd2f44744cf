-- No board sees the claims of a body.
use Rattle.std.proofs.Common.{refl, ap, sym, ◌∙◌, option_map}
use Rattle.std.proofs.lemmas.Option.{same_Some}
use Rattle.qo_claims.specs.Book.{ClaimsTaken}
use Rattle.qo_kinds.specs.Bodies.{kept_of, none_kept, with_kept}
use Rattle.qo_object.specs.Content.{Content}
use Rattle.qo_heap.specs.Acts.{clocked_in, counted_in, counts_of, periods_of}
use Rattle.qo_heap.specs.Objects.{Objects, without_kept}
use Rattle.qo_heap.proofs.BoardObjects.{live-content}
use Rattle.qo_life.proofs.TreeLemmas.{read-content}
use Rattle.qo_unplug.proofs.EndingLemmas.{bare-now, undoes-freed}
use Rattle.qo_unplug.proofs.KeptLemmas.{kept-freed}
use Rattle.qo_unplug.proofs.claims.free_claims.Goals as goal

pub returns-clause-undoes : goal.returns-clause-undoes
returns-clause-undoes g c = λ held asked.
    let (content, there) = live-content c.args.heap.now c.args.o c.requires in
    let kept = c.take_claims-kept.result in
    let u = c.take_claims-kept.new.heap in
    let own = same_Some (kept_of content.body) kept (sym (ap (option_map (λ (d : Content). kept_of d.body)) there) ∙ c.take_claims-kept.ensures.taken) in
    undoes-freed c.args.heap.now u (record u { claims = c.free_kept.new.claims }) c.reveal_invariant.ensures c.args.o.birth content there kept own
    c.take_claims-kept.ensures.left
    (ap (λ (h : ClaimsTaken). record u { claims = h }) (c.free_kept.ensures ∙ ap (without_kept kept) c.claims.ensures.claims)) held asked

pub returns-clause-bare : goal.returns-clause-bare
returns-clause-bare g c = bare-now c.args.heap.now c.take_claims-kept.new.heap c.args.o c.requires c.take_claims-kept.ensures.left

pub returns-clause-others : goal.returns-clause-others
returns-clause-others g c =
    kept-freed c.args.heap.now c.take_claims-kept.new.heap (record c.take_claims-kept.new.heap { claims = c.free_kept.new.claims }) c.args.o.birth
    c.free_kept.new.claims c.take_claims-kept.ensures.left refl

pub returns-clause-counts : goal.returns-clause-counts
returns-clause-counts g c = λ n.
    ap (λ (x : Objects). counted_in x n) c.take_claims-kept.ensures.left
    ∙ read-content counts_of c.args.o.birth (λ (d : Content). record d { body = with_kept none_kept d.body }) (λ d. refl) c.args.heap.now n

pub returns-clause-periods : goal.returns-clause-periods
returns-clause-periods g c = λ n.
    ap (λ (x : Objects). clocked_in x n) c.take_claims-kept.ensures.left
    ∙ read-content periods_of c.args.o.birth (λ (d : Content). record d { body = with_kept none_kept d.body }) (λ d. refl) c.args.heap.now n
