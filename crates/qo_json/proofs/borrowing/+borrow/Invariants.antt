use Rattle.std.proofs.Common.{◌≡◌, drop}
use Rattle.serde_json.specs.View.{items_view, members_view}
use Rattle.qo_json.proofs.ReadingLemmas.{items_before, members_before}
use Rattle.qo_json.proofs.borrowing.+borrow.Given as goal

-- all are those found, and after them those left
abbrev pub invariant-borrow_items-loop-item : goal.invariant-borrow_items-loop-item
invariant-borrow_items-loop-item l = items_view l.items.items ≡ items_before l.found.items (items_view (drop l.item-index l.item-items))

abbrev pub invariant-borrow_members-loop-name : goal.invariant-borrow_members-loop-name
invariant-borrow_members-loop-name l = members_view l.members.entries ≡ members_before l.found.items (members_view l.name-iterator)
