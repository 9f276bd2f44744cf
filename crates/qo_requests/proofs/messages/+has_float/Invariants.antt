use Rattle.std.proofs.Common.{◌≡◌, drop}
use Rattle.qo_json.specs.View.{items_view, members_view}
use Rattle.serde_json.specs.Written.{items_have_float, members_have_float}
use Rattle.qo_requests.proofs.messages.+has_float.Given as goal

-- a float is among all where it is among those that are left
abbrev pub invariant-items_have_float-loop-item : goal.invariant-items_have_float-loop-item
invariant-items_have_float-loop-item l = items_have_float (items_view l.items.items) ≡ items_have_float (items_view (drop l.item-index l.item-items))

abbrev pub invariant-members_have_float-loop-member : goal.invariant-members_have_float-loop-member
invariant-members_have_float-loop-member l =
    members_have_float (members_view l.members.items) ≡ members_have_float (members_view (drop l.member-index l.member-items))
