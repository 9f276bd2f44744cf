-- An unfinished object stays so, or ends.
use Rattle.std.proofs.Common.{◌≡◌, ℕ, ◌-◌, ◌≤◌, ◌∷◌, [], ◌++◌, List, length, reverse, sym, ◌∙◌, ap, subst, rules}
use Rattle.std.proofs.lemmas.List.{length-reverse}
use Rattle.std.proofs.lemmas.Result.{IfOk-weaker}
use Rattle.qo_framing.specs.Framers.{framing}
use Rattle.qo_framing.specs.Parts.{IsUnfinished, state_of}
use Rattle.qo_framing.specs.declared.framer.Mode.{Mode}
use Rattle.qo_framing.proofs.Feeding.{fed, fed_open, unfinished_of}
use Rattle.qo_framing.proofs.UnfinishedObjects.{unfinished_more}
use Rattle.qo_framing.proofs.framer.Framer.feed.Goals as goal

pub invariant_of-self-in-Open : goal.invariant_of-self-in-Open
invariant_of-self-in-Open c =
    let old = unfinished_of c.self.inside.mode c.self.inside.partial.items c.in-Inside.scanner c.in-Inside.is c.self.invariant in
    let size : length c.self.inside.partial.items ≡ c.len.result = search rules in
    let room = subst (λ (n : ℕ). length c.args.bytes.now ≤ 262144 - n) (sym size) c.in-Open.ensures.open in
    let found = c.in-Open.ensures.found (reverse c.self.inside.partial.items) old.scanned (length-reverse c.self.inside.partial.items ∙ size) in
    subst (λ (l : List ℕ). IsUnfinished l c.in-Open.scanner) (sym c.in_ok-extend_from_slice-in-Open.ensures.items)
    (unfinished_more c.self.inside.partial.items c.args.bytes.now c.in-Inside.scanner c.in-Open.scanner old found.0 found.1 room)

pub returns-in_ok-extend_from_slice-in-Open-clause-items :
    goal.returns-in_ok-extend_from_slice-in-Open-clause-items
returns-in_ok-extend_from_slice-in-Open-clause-items c =
    let old = unfinished_of c.self.inside.mode c.self.inside.partial.items c.in-Inside.scanner c.in-Inside.is c.self.invariant in
    let size : length c.self.inside.partial.items ≡ c.len.result = search rules in
    let found = c.in-Open.ensures.found (reverse c.self.inside.partial.items) old.scanned (length-reverse c.self.inside.partial.items ∙ size) in
    let is = sym c.self.view_is ∙ ap (λ (m : Mode). framing m c.self.inside.partial.items) c.in-Inside.is in
    fed_open c.args.self.now c.self.inside.partial.items c.args.bytes.now c.extend_from_slice.new.self.items c.in-Inside.scanner c.clear.new.self.items is old
    found.0 c.clear.ensures.items c.in_ok-extend_from_slice-in-Open.ensures.items

pub returns-in_ok-push_some-in-Ended-clause-items :
    goal.returns-in_ok-push_some-in-Ended-clause-items
returns-in_ok-push_some-in-Ended-clause-items c =
    let old = unfinished_of c.self.inside.mode c.self.inside.partial.items c.in-Inside.scanner c.in-Inside.is c.self.invariant in
    let size : length c.self.inside.partial.items ≡ c.len.result = search rules in
    let found = c.in-Ended.ensures.found (reverse c.self.inside.partial.items) old.scanned (length-reverse c.self.inside.partial.items ∙ size) in
    let is = sym c.self.view_is ∙ ap (λ (m : Mode). framing m c.self.inside.partial.items) c.in-Inside.is in
    let items_are = c.in_ok-push_some-in-Ended.ensures ∙ ap (λ l. l ++ c.in_ok-item-in-Ended.item ∷ []) c.byte_room-room.ensures in
    IfOk-weaker c.go_on.result
    _ _ (λ all h. fed c.args.self.now c.self.inside.partial.items c.args.bytes.now c.deref.result.now c.in-Inside.scanner c.in-Ended.ending c.in-Ended.count
    c.in_ok-item-in-Ended.item c.push_some.new.items.items (state_of c.rest_of-gap.result.0) c.rest_of-gap.result.1.now _ is old c.in-Ended.ensures.count.0
    found c.deref.ensures.value c.in_ok-item-in-Ended.ensures items_are c.rest_of-gap.ensures.state c.rest_of-gap.ensures.left h)
    c.go_on.ensures.items
