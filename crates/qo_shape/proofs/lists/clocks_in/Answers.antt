-- One item more, or one that is none.
use Rattle.std.proofs.Common.{◌≡◌, Err, [], ◌∷◌, ◌+◌, ap, sym, ◌∙◌, drop, map, arith, rules}
use Rattle.std.proofs.Math.ListN.{drop_of_length-le}
use Rattle.std.proofs.lemmas.List.{drop_more}
use Rattle.serde_json.specs.Data.{Items}
use Rattle.qo_json.specs.View.{items_view, view}
use Rattle.qo_json.specs.declared.values.Json.{Json}
use Rattle.qo_save.specs.Shape.{clock_item_in}
use Rattle.qo_shape.specs.Said.{clock_said}
use Rattle.qo_shape.proofs.ReadLemmas.{Left, left-first, left-last, left-next, left-none, listed, reads-err, unlisted}
use Rattle.qo_shape.proofs.lists.clocks_in.Goals as goal

pub returns-in_err-items : goal.returns-in_err-items
returns-in_err-items c =
    let is : c.from_residual.result ≡ Err c.in_err-items.field-0.0 = search rules in
    reads-err (λ found. map clock_said found.items) (λ (js : Items). js) c.from_residual.result c.in_err-items.field-0.0 _ _ is c.in_err-items.ensures
    (unlisted clock_said clock_item_in (view c.args.value.now))

pub loop-item-init : goal.loop-item-init
loop-item-init c = rw c.new-found.ensures.items (left-first clock_said clock_item_in c.in_ok-items.items.now)

pub returns-in_err-clock_item_in : goal.returns-in_err-clock_item_in
returns-in_err-clock_item_in c =
    let all = c.in_ok-items.items.now in
    let i = c.loop-item.item-index in
    let j : Json = c.item-item.result in
    let here : drop i all ≡ j ∷ drop (i + 1) all = drop_more all i j (omega arith) ∙ ap (λ (y : Json). y ∷ drop (i + 1) all) (sym c.item-item.is) in
    let was : Left clock_said clock_item_in (items_view all) c.loop-item.found.items (j ∷ drop (i + 1) all) = rw here at c.loop-item.invariant in
    let is : c.from_residual-in_err-clock_item_in.result ≡ Err c.in_err-clock_item_in.field-0.0 = search rules in
    reads-err (λ found. map clock_said found.items) clock_said c.from_residual-in_err-clock_item_in.result c.in_err-clock_item_in.field-0.0 _ _ is
    c.in_err-clock_item_in.ensures
    (λ none. listed clock_said clock_item_in (view c.args.value.now) (items_view all) _ c.in_ok-items.ensures
    (left-none clock_said clock_item_in (items_view all) c.loop-item.found.items j (drop (i + 1) all) was none))

pub loop-item-preserved : goal.loop-item-preserved
loop-item-preserved c =
    let all = c.in_ok-items.items.now in
    let i = c.loop-item.item-index in
    let j : Json = c.item-item.result in
    let here : drop i all ≡ j ∷ drop (i + 1) all = drop_more all i j (omega arith) ∙ ap (λ (y : Json). y ∷ drop (i + 1) all) (sym c.item-item.is) in
    let was : Left clock_said clock_item_in (items_view all) c.loop-item.found.items (j ∷ drop (i + 1) all) = rw here at c.loop-item.invariant in
    rw c.in_ok-push.ensures.items (left-next clock_said clock_item_in (items_view all) c.loop-item.found.items j (drop (i + 1) all)
    c.in_ok-clock_item_in.field-0 was c.in_ok-clock_item_in.ensures)

pub returns : goal.returns
returns c =
    let all = c.in_ok-items.items.now in
    let none : drop c.loop-item.item-index all ≡ [] = drop_of_length-le all (omega arith) in
    listed clock_said clock_item_in (view c.args.value.now) (items_view all) _ c.in_ok-items.ensures
    (left-last clock_said clock_item_in (items_view all) c.loop-item.found.items (rw none at c.loop-item.invariant))
