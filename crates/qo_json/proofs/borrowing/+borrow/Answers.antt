use Rattle.std.proofs.Common.{◌≡◌, ◌+◌, [], ◌∷◌, drop, sym, ap, ◌∙◌, arith, string_bytes}
use Rattle.std.proofs.Math.ListN.{drop_of_length-le}
use Rattle.std.proofs.lemmas.List.{drop_more}
use Rattle.serde_json.proofs.Views.{Entry}
use Rattle.serde_json.specs.View.{view as owned_view, items_view as owned_items_view, members_view as owned_members_view}
use Rattle.serde_json.specs.declared.value.Value.{Value}
use Rattle.qo_json.proofs.MemberLemmas.{Member}
use Rattle.qo_json.proofs.ReadingLemmas.{items_before, items_before-no_items, item_on, members_before, members_before-no_members, member_on}
use Rattle.qo_json.proofs.borrowing.+borrow.Goals as goal

pub borrow_items-loop-item-preserved : goal.borrow_items-loop-item-preserved
borrow_items-loop-item-preserved t c =
    let all = c.deref-item-items.result.now in
    let i = c.loop-item.item-index in
    let x : Value = c.item-item.result in
    let found = c.loop-item.found.items in
    let left = owned_items_view (drop (i + 1) all) in
    let here : drop i all ≡ x ∷ drop (i + 1) all = drop_more all i x (omega arith) ∙ ap (λ (y : Value). y ∷ drop (i + 1) all) (sym c.item-item.is) in
    let was = c.loop-item.invariant ∙ ap (λ vs. items_before found (owned_items_view vs)) here in
    item_on _ found c.push.new.self.items c.in_ok-borrow.field-0 (owned_view x) left was c.in_ok-borrow.ensures c.in_ok-push.ensures.items

pub borrow_items-returns : goal.borrow_items-returns
borrow_items-returns t c =
    let all = c.deref-item-items.result.now in
    let found = c.loop-item.found.items in
    let none : drop c.loop-item.item-index all ≡ [] = drop_of_length-le all (omega arith) in
    sym (c.loop-item.invariant ∙ ap (λ vs. items_before found (owned_items_view vs)) none ∙ items_before-no_items found)

pub borrow_members-loop-name-preserved : goal.borrow_members-loop-name-preserved
borrow_members-loop-name-preserved t c =
    let e : Entry = (c.in-Some.name.now, c.in-Some.member.now) in
    let found = c.loop-name.found.items in
    let left = owned_members_view c.next.new.self in
    let m : Member = (c.as_str.result, c.in_ok-borrow.field-0) in
    let was = c.loop-name.invariant ∙ ap (λ es. members_before found (owned_members_view es)) c.in-Some.ensures.steps in
    member_on _ found c.push.new.self.items m (string_bytes e.0) (owned_view e.1) left was c.as_str.ensures.value c.in_ok-borrow.ensures
    c.in_ok-push.ensures.items

pub borrow_members-returns : goal.borrow_members-returns
borrow_members-returns t c =
    let found = c.loop-name.found.items in
    sym (c.loop-name.invariant ∙ ap (λ es. members_before found (owned_members_view es)) c.in-None.ensures.steps.0 ∙ members_before-no_members found)
