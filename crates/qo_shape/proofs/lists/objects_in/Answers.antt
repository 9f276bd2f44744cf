-- One item more, or one that is none.
use Rattle.std.proofs.Common.{◌≡◌, Err, [], ◌∷◌, ◌+◌, ap, sym, ◌∙◌, drop, map, arith, rules}
use Rattle.std.proofs.Math.ListN.{drop_of_length-le}
use Rattle.std.proofs.lemmas.List.{drop_more}
use Rattle.serde_json.specs.Data.{Items}
use Rattle.qo_json.specs.View.{items_view, view}
use Rattle.qo_json.specs.declared.values.Json.{Json}
use Rattle.qo_save.specs.Shape.{object_in}
use Rattle.qo_shape.specs.Said.{object_said}
use Rattle.qo_shape.proofs.ReadLemmas.{Left, item-at, item-ordered, left-first, left-last, left-next, left-none, listed, reads-err, unlisted}
use Rattle.qo_shape.proofs.lists.objects_in.Goals as goal

pub returns-in_err-items : goal.returns-in_err-items
returns-in_err-items c =
    let is : c.from_residual.result ≡ Err c.in_err-items.field-0.0 = search rules in
    reads-err (λ found. map object_said found.items) (λ (js : Items). js) c.from_residual.result c.in_err-items.field-0.0 _ _ is c.in_err-items.ensures
    (unlisted object_said object_in (view c.args.value.now))

pub loop-item-init : goal.loop-item-init
loop-item-init c = rw c.new-found.ensures.items (left-first object_said object_in c.in_ok-items.items.now)

pub object_in-requires : goal.object_in-requires
object_in-requires c =
    item-ordered (view c.args.value.now) c.in_ok-items.items.now c.loop-item.item-index c.item-item.result c.requires c.in_ok-items.ensures
    (item-at c.in_ok-items.items.now c.loop-item.item-index c.item-item.result (omega arith) c.item-item.is)

pub returns-in_err-object_in : goal.returns-in_err-object_in
returns-in_err-object_in c =
    let all = c.in_ok-items.items.now in
    let i = c.loop-item.item-index in
    let j : Json = c.item-item.result in
    let here : drop i all ≡ j ∷ drop (i + 1) all = drop_more all i j (omega arith) ∙ ap (λ (y : Json). y ∷ drop (i + 1) all) (sym c.item-item.is) in
    let was : Left object_said object_in (items_view all) c.loop-item.found.items (j ∷ drop (i + 1) all) = rw here at c.loop-item.invariant in
    let is : c.from_residual-in_err-object_in.result ≡ Err c.in_err-object_in.field-0.0 = search rules in
    reads-err (λ found. map object_said found.items) object_said c.from_residual-in_err-object_in.result c.in_err-object_in.field-0.0 _ _ is
    c.in_err-object_in.ensures
    (λ none. listed object_said object_in (view c.args.value.now) (items_view all) _ c.in_ok-items.ensures
    (left-none object_said object_in (items_view all) c.loop-item.found.items j (drop (i + 1) all) was none))

pub loop-item-preserved : goal.loop-item-preserved
loop-item-preserved c =
    let all = c.in_ok-items.items.now in
    let i = c.loop-item.item-index in
    let j : Json = c.item-item.result in
    let here : drop i all ≡ j ∷ drop (i + 1) all = drop_more all i j (omega arith) ∙ ap (λ (y : Json). y ∷ drop (i + 1) all) (sym c.item-item.is) in
    let was : Left object_said object_in (items_view all) c.loop-item.found.items (j ∷ drop (i + 1) all) = rw here at c.loop-item.invariant in
    rw c.in_ok-push.ensures.items
    (left-next object_said object_in (items_view all) c.loop-item.found.items j (drop (i + 1) all) c.in_ok-object_in.field-0 was c.in_ok-object_in.ensures)

pub returns : goal.returns
returns c =
    let all = c.in_ok-items.items.now in
    let none : drop c.loop-item.item-index all ≡ [] = drop_of_length-le all (omega arith) in
    listed object_said object_in (view c.args.value.now) (items_view all) _ c.in_ok-items.ensures
    (left-last object_said object_in (items_view all) c.loop-item.found.items (rw none at c.loop-item.invariant))
