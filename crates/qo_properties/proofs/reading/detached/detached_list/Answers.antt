-- Each place tells of its object, if that is detached.
use Rattle.std.proofs.Common.{◌+◌, ◌∷◌, [], ◌++◌, List, Some, None, ap, sym, ◌∙◌, append_assoc}
use Rattle.qo_model.specs.declared.detached.Detached.{Detached}
use Rattle.qo_properties.proofs.ReadLemmas.{detached-all, detached_after, given-next, in_row}
use Rattle.qo_properties.proofs.reading.detached.detached_list.Goals as goal

pub loop-place-init : goal.loop-place-init
loop-place-init g c =
    λ b s. detached-all b c.args.heap.now s ∙ ap (λ (l : List Detached). l ++ detached_after b c.args.heap.now.rows 0) (sym c.new-list.ensures.items)

pub loop-place-preserved-in_default : goal.loop-place-preserved-in_default
loop-place-preserved-in_default g c = λ b s.
    c.loop-place.invariant b s
    ∙ ap (λ (l : List Detached). c.loop-place.list.items ++ l) (given-next (in_row b) c.args.heap.now.rows c.loop-place.place None (c.in_default.ensures b s))

pub loop-place-preserved : goal.loop-place-preserved
loop-place-preserved g c = λ b s.
    c.loop-place.invariant b s
    ∙ ap (λ (l : List Detached). c.loop-place.list.items ++ l)
    (given-next (in_row b) c.args.heap.now.rows c.loop-place.place (Some c.in-Some.found) (c.in-Some.ensures b s))
    ∙ sym (append_assoc c.loop-place.list.items (c.in-Some.found ∷ []) (detached_after b c.args.heap.now.rows (c.loop-place.place + 1)))
    ∙ ap (λ (l : List Detached). l ++ detached_after b c.args.heap.now.rows (c.loop-place.place + 1)) (sym c.in_ok-push.ensures.items)
