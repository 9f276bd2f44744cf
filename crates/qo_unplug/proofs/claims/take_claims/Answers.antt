-- The body that was there is left without its claims.
use Rattle.std.proofs.Common.{ap, sym, ◌∙◌, option_map}
use Rattle.std.proofs.lemmas.Option.{same_Some}
use Rattle.qo_kinds.specs.Bodies.{none_kept, with_kept}
use Rattle.qo_kinds.specs.declared.bodies.Body.{Body}
use Rattle.qo_object.specs.Content.{Content}
use Rattle.qo_heap.proofs.BoardObjects.{live-content}
use Rattle.qo_unplug.proofs.EndingLemmas.{bare-left}
use Rattle.qo_unplug.proofs.claims.take_claims.Goals as goal

pub returns-clause-left : goal.returns-clause-left
returns-clause-left g c =
    let (content, there) = live-content c.args.heap.now c.args.o c.requires in
    let body = same_Some content.body c.body_mut.result.now (sym (ap (option_map (λ (d : Content). d.body)) there) ∙ c.body_mut.ensures.body) in
    bare-left c.args.heap.now c.reveal_invariant.ensures c.args.o.birth content there _
    (c.take_claims.ensures.left ∙ ap (λ (b : Body). with_kept none_kept b) (sym body))
