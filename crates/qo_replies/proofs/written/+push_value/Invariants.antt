use Rattle.std.proofs.Common.{drop, string_bytes}
use Rattle.qo_json.specs.View.{items_view, members_view}
use Rattle.qo_replies.proofs.TextLemmas.{ItemsLeft, MembersLeft}
use Rattle.qo_replies.proofs.written.+push_value.Given as goal

abbrev pub invariant-push_items-loop-item : goal.invariant-push_items-loop-item
invariant-push_items-loop-item l =
    ItemsLeft (items_view l.items.items) (items_view (drop l.item-index l.item-items)) l.later (string_bytes l.fn.text) (string_bytes l.text)

abbrev pub invariant-push_members-loop-member : goal.invariant-push_members-loop-member
invariant-push_members-loop-member l =
    MembersLeft (members_view l.members.items) (members_view (drop l.member-index l.member-items)) l.later (string_bytes l.fn.text)
    (string_bytes l.text)
