use Rattle.std.proofs.Common.{ap, sym, ◌∙◌, Some, None, subst, IfSome, Option}
use Rattle.qo_heap.specs.Keeping.{plain}
use Rattle.qo_heap.specs.Order.{rows_in}
use Rattle.qo_heap.specs.Rows.{IsLive, edit}
use Rattle.qo_heap.specs.WeakLinks.{with_both}
use Rattle.qo_heap.specs.WeakLists.{linked_in, turned_in, with_node}
use Rattle.qo_heap.specs.declared.weak_links.End.{End}
use Rattle.qo_heap.proofs.WeakTables.{live-same, owner-same, plain-first, plain-node}
use Rattle.qo_heap.proofs.weak_lists.join.Goals as goal

pub set_front-requires-clause-live : goal.set_front-requires-clause-live
set_front-requires-clause-live g c =
    live-same (rows_in c.args.table.now c.args.order.now.items) (rows_in c.set_first-next.new.table c.args.order.now.items) (ap plain c.set_first-next.ensures.rows
    ∙ plain-first c.in-Some-Some.target.birth (Some (record { owner = c.args.owner; id = c.in-Some-Some.id })) (rows_in c.args.table.now c.args.order.now.items)) c.args.owner c.requires.live

pub set_prev-requires-clause-live : goal.set_prev-requires-clause-live
set_prev-requires-clause-live g c =
    owner-same (rows_in c.args.table.now c.args.order.now.items) (rows_in c.set_front.new.table c.args.order.now.items)
    (ap plain c.set_front.ensures.rows
    ∙ plain-node c.args.owner.birth c.in-Some-Some.id (with_both None c.set_first-next.result) (rows_in c.set_first-next.new.table c.args.order.now.items)
    ∙ ap plain c.set_first-next.ensures.rows
    ∙ plain-first c.in-Some-Some.target.birth (Some (record { owner = c.args.owner; id = c.in-Some-Some.id })) (rows_in c.args.table.now c.args.order.now.items))
    c.set_first-next.result
    (subst (λ (h : Option End). IfSome h (λ e. IsLive (plain (rows_in c.args.table.now c.args.order.now.items)) e.owner)) (sym c.set_first-next.ensures.answer)
    (rw c.in-Some-Some.is-1 at c.requires.target).1)

pub returns-in-Some-Some-clause-rows : goal.returns-in-Some-Some-clause-rows
returns-in-Some-Some-clause-rows g c =
    let link : End = record { owner = c.args.owner; id = c.in-Some-Some.id } in
    let next = c.set_first-next.result in
    rw (c.in-Some-Some.is-0, c.in-Some-Some.is-1) (
    c.set_prev.ensures.rows
    ∙ ap (turned_in next (Some link)) (c.set_front.ensures.rows
    ∙ ap (edit c.args.owner.birth (with_node c.in-Some-Some.id (with_both None next))) c.set_first-next.ensures.rows)
    ∙ ap (λ (h : Option End). linked_in c.in-Some-Some.target.birth link h (rows_in c.args.table.now c.args.order.now.items)) c.set_first-next.ensures.answer)
