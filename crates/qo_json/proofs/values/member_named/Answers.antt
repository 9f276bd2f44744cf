use Rattle.std.proofs.Common.{◌≡◌, ◌+◌, ◌∷◌, drop, sym, ap, ◌∙◌, arith}
use Rattle.std.proofs.lemmas.List.{drop_more}
use Rattle.serde_json.specs.Find.{get_member}
use Rattle.qo_json.specs.View.{members_view}
use Rattle.qo_json.proofs.MemberLemmas.{Member, member_here, member_later}
use Rattle.qo_json.proofs.values.member_named.Goals as goal

pub returns-then-eq : goal.returns-then-eq
returns-then-eq c =
    let all = c.args.members.now in
    let i = c.loop-member.member-index in
    let m : Member = c.member-item.result in
    let here : drop i all ≡ m ∷ drop (i + 1) all = drop_more all i m (omega arith) ∙ ap (λ (y : Member). y ∷ drop (i + 1) all) (sym c.member-item.is) in
    let left = ap (λ ms. get_member c.args.name.now (members_view ms)) here in
    sym (c.loop-member.invariant ∙ left ∙ member_here c.args.name.now m (drop (i + 1) all) (grind arith))

pub loop-member-preserved : goal.loop-member-preserved
loop-member-preserved c =
    let all = c.args.members.now in
    let i = c.loop-member.member-index in
    let m : Member = c.member-item.result in
    let here : drop i all ≡ m ∷ drop (i + 1) all = drop_more all i m (omega arith) ∙ ap (λ (y : Member). y ∷ drop (i + 1) all) (sym c.member-item.is) in
    let left = ap (λ ms. get_member c.args.name.now (members_view ms)) here in
    c.loop-member.invariant ∙ left ∙ member_later c.args.name.now m (drop (i + 1) all) (grind arith)
