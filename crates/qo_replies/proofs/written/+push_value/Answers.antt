use Rattle.std.proofs.Common.{◌≡◌, ◌+◌, ◌∷◌, [], false, drop, string_bytes, IsUtf8, refl, sym, ap, ◌∙◌, subst, arith, rules}
use Rattle.std.proofs.Math.ListN.{drop_of_length-le}
use Rattle.std.proofs.lemmas.List.{drop_more}
use Rattle.std.proofs.lemmas.Result.{on_ok_weaker}
use Rattle.std.proofs.lemmas.Str.{IsUtf8-from_ascii}
use Rattle.json.specs.Ascii.{null_text}
use Rattle.serde_json.specs.Data.{null, number}
use Rattle.serde_json.specs.Find.{is_float}
use Rattle.serde_json.specs.View.{number_view}
use Rattle.serde_json.specs.Written.{items_have_float, items_text, members_have_float, members_text, number_text}
use Rattle.qo_json.specs.View.{view, items_view, members_view}
use Rattle.qo_json.specs.declared.values.Json.{Json, Null, the_lemmas}
use Rattle.qo_json.proofs.MemberLemmas.{Member}
use Rattle.qo_replies.proofs.AsciiLemmas.{ascii-plain}
use Rattle.qo_replies.proofs.QuoteLemmas.{small-ascii}
use Rattle.qo_replies.proofs.TextLemmas.{IsWritten, ItemsLeft, items_begin, item_written, items_end, MembersLeft, members_begin, member_written, members_end}
use Rattle.qo_replies.proofs.written.+push_value.Goals as goal

pub push_value-returns-in-Null-clause-spelled : goal.push_value-returns-in-Null-clause-spelled
push_value-returns-in-Null-clause-spelled t c =
    let seen : view Null ≡ null = search (rules, the_lemmas) in
    let text : IsUtf8 null_text = IsUtf8-from_ascii null_text (small-ascii null_text refl) in
    on_ok_weaker c.push_ascii.result (λ _ _. rw (c.in-Null.is, seen) text) c.push_ascii.ensures

pub push_value-returns-in_ok-push_any_number-in-Number-clause-bytes : goal.push_value-returns-in_ok-push_any_number-in-Number-clause-bytes
push_value-returns-in_ok-push_any_number-in-Number-clause-bytes t c whole =
    let n = c.in-Number.number in
    let seen : view c.args.value.now ≡ number (number_view n) = rw c.in-Number.is (search (rules, the_lemmas)) in
    let done = c.in_ok-push_any_number-in-Number.ensures in
    let none : is_float (number_view n) ≡ false = rw seen at whole in
    done.bytes none ∙ rw (seen, ascii-plain (number_text (number_view n)) (done.spelled none)) refl

pub push_value-returns-in_ok-push_any_number-in-Number-clause-spelled : goal.push_value-returns-in_ok-push_any_number-in-Number-clause-spelled
push_value-returns-in_ok-push_any_number-in-Number-clause-spelled t c whole =
    let n = c.in-Number.number in
    let seen : view c.args.value.now ≡ number (number_view n) = rw c.in-Number.is (search (rules, the_lemmas)) in
    let none : is_float (number_view n) ≡ false = rw seen at whole in
    rw seen (IsUtf8-from_ascii (number_text (number_view n)) (c.in_ok-push_any_number-in-Number.ensures.spelled none))

pub push_items-loop-item-init : goal.push_items-loop-item-init
push_items-loop-item-init t c =
    let all = items_view c.args.items.now.items in
    let same : all ≡ items_view c.deref-item-items.result.now = ap items_view (sym c.deref-item-items.ensures.value) in
    rw (← same) (items_begin all (string_bytes c.args.text.now) (string_bytes c.push_str.new.self) c.in_ok-push_str.ensures.bytes)

pub push_items-loop-item-preserved : goal.push_items-loop-item-preserved
push_items-loop-item-preserved t c =
    let xs = c.deref-item-items.result.now in
    let i = c.loop-item.item-index in
    let x : Json = c.item-item.result in
    let all = items_view c.args.items.now.items in
    let old = string_bytes c.args.text.now in
    let now = string_bytes c.loop-item.text in
    let here : drop i xs ≡ x ∷ drop (i + 1) xs = drop_more xs i x (omega arith) ∙ ap (λ (y : Json). y ∷ drop (i + 1) xs) (sym c.item-item.is) in
    let was = subst (λ vs. ItemsLeft all (items_view vs) c.loop-item.later old now) here c.loop-item.invariant in
    item_written all (view x) (items_view (drop (i + 1) xs)) c.loop-item.later old now (string_bytes c.push_comma.new.text)
    (string_bytes c.push_value.new.text) was c.in_ok-push_comma.ensures c.in_ok-push_value.ensures.bytes c.in_ok-push_value.ensures.spelled

pub push_members-loop-member-init : goal.push_members-loop-member-init
push_members-loop-member-init t c =
    let all = members_view c.args.members.now.items in
    let same : all ≡ members_view c.deref-member-items.result.now = ap members_view (sym c.deref-member-items.ensures.value) in
    rw (← same) (members_begin all (string_bytes c.args.text.now) (string_bytes c.push_str.new.self) c.in_ok-push_str.ensures.bytes)

pub push_members-loop-member-preserved : goal.push_members-loop-member-preserved
push_members-loop-member-preserved t c =
    let xs = c.deref-member-items.result.now in
    let i = c.loop-member.member-index in
    let x : Member = c.member-item.result in
    let all = members_view c.args.members.now.items in
    let old = string_bytes c.args.text.now in
    let now = string_bytes c.loop-member.text in
    let same = ap (λ (y : Member). y ∷ drop (i + 1) xs) (sym c.member-item.is) in
    let here : drop i xs ≡ x ∷ drop (i + 1) xs = drop_more xs i x (omega arith) ∙ same in
    let was = subst (λ ms. MembersLeft all (members_view ms) c.loop-member.later old now) here c.loop-member.invariant in
    member_written all x.0.now (view x.1) (members_view (drop (i + 1) xs)) c.loop-member.later old now (string_bytes c.push_comma.new.text)
    (string_bytes c.push_quoted.new.text) (string_bytes c.push_str-in-loop-member.new.self) (string_bytes c.push_value.new.text) was
    c.in_ok-push_comma.ensures c.in_ok-push_quoted.ensures.bytes c.in_ok-push_quoted.ensures.spelled c.in_ok-push_str-2.ensures.bytes
    c.in_ok-push_value.ensures.bytes c.in_ok-push_value.ensures.spelled

-- the whole text of a list and of an object

items_written : (t : _) (c : goal.push_items-In_ok-push_str-2 t) → items_have_float (items_view c.args.items.now.items) ≡ false
    → IsWritten (string_bytes c.args.text.now) (string_bytes c.push_str-2.new.self) (91 ∷ items_text false (items_view c.args.items.now.items))
items_written t c whole =
    let all = items_view c.args.items.now.items in
    let l = c.loop-item in
    let old = string_bytes c.args.text.now in
    let now = string_bytes l.text in
    let none : drop l.item-index c.deref-item-items.result.now ≡ [] = drop_of_length-le c.deref-item-items.result.now (omega arith) in
    let was = subst (λ vs. ItemsLeft all (items_view vs) l.later old now) none l.invariant in
    items_end all l.later old now (string_bytes c.push_str-2.new.self) was c.in_ok-push_str-2.ensures.bytes whole

pub push_items-returns-clause-bytes : goal.push_items-returns-clause-bytes
push_items-returns-clause-bytes t c whole = (items_written t c whole).bytes

pub push_items-returns-clause-spelled : goal.push_items-returns-clause-spelled
push_items-returns-clause-spelled t c whole = (items_written t c whole).spelled

members_written : (t : _) (c : goal.push_members-In_ok-push_str-3 t) → members_have_float (members_view c.args.members.now.items) ≡ false
    → IsWritten (string_bytes c.args.text.now) (string_bytes c.push_str-2.new.self) (123 ∷ members_text false (members_view c.args.members.now.items))
members_written t c whole =
    let all = members_view c.args.members.now.items in
    let l = c.loop-member in
    let old = string_bytes c.args.text.now in
    let now = string_bytes l.text in
    let none : drop l.member-index c.deref-member-items.result.now ≡ [] = drop_of_length-le c.deref-member-items.result.now (omega arith) in
    let was = subst (λ ms. MembersLeft all (members_view ms) l.later old now) none l.invariant in
    members_end all l.later old now (string_bytes c.push_str-2.new.self) was c.in_ok-push_str-3.ensures.bytes whole

pub push_members-returns-clause-bytes : goal.push_members-returns-clause-bytes
push_members-returns-clause-bytes t c whole = (members_written t c whole).bytes

pub push_members-returns-clause-spelled : goal.push_members-returns-clause-spelled
push_members-returns-clause-spelled t c whole = (members_written t c whole).spelled
