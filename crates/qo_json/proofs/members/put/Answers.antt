use Rattle.std.proofs.Common.{◌≡◌, set, Ok, Err, sym, ap, ◌∙◌, arith}
use Rattle.qo_json.specs.Places.{place_of}
use Rattle.qo_json.specs.View.{members_view}
use Rattle.qo_json.proofs.MemberLemmas.{Member}
use Rattle.qo_json.proofs.PlaceLemmas.{inserted, pushed, replaced}
use Rattle.qo_json.proofs.members.put.Goals as goal

pub index_mut-requires : goal.index_mut-requires
index_mut-requires c =
    let all = c.args.members.now.items in
    let same = ap (place_of c.args.name.now) (sym c.as_slice.ensures.value) in
    let at : place_of c.args.name.now all ≡ Ok c.in-Ok.at = same ∙ sym c.place_of.ensures ∙ c.in-Ok.is in
    omega (arith, (replaced c.args.name.now c.args.value all c.in-Ok.at at).0, c.args.members.now.ok.0)

pub insert-requires : goal.insert-requires
insert-requires c =
    let all = c.args.members.now.items in
    let same = ap (place_of c.args.name.now) (sym c.as_slice.ensures.value) in
    let at : place_of c.args.name.now all ≡ Err c.in-Err-2.at = same ∙ sym c.place_of.ensures ∙ c.in-Err-2.is in
    omega (arith, (inserted c.args.name c.args.value all c.in-Err-2.at at).0, c.args.members.now.ok.0)

pub returns-in-Ok-clause-put : goal.returns-in-Ok-clause-put
returns-in-Ok-clause-put c =
    let all = c.args.members.now.items in
    let same = ap (place_of c.args.name.now) (sym c.as_slice.ensures.value) in
    let at : place_of c.args.name.now all ≡ Ok c.in-Ok.at = same ∙ sym c.place_of.ensures ∙ c.in-Ok.is in
    let m : Member = c.index_mut.result.now in
    ap (λ (x : Member). members_view (set all c.in-Ok.at (x.0, c.args.value))) c.index_mut.ensures.value
    ∙ (replaced c.args.name.now c.args.value all c.in-Ok.at at).1 m

pub returns-in_ok-push-in-Err-2-clause-put : goal.returns-in_ok-push-in-Err-2-clause-put
returns-in_ok-push-in-Err-2-clause-put c =
    let all = c.args.members.now.items in
    let same = ap (place_of c.args.name.now) (sym c.as_slice.ensures.value) in
    let at : place_of c.args.name.now all ≡ Err c.in-Err.field-0 = same ∙ sym c.place_of.ensures ∙ c.in-Err.is in
    ap members_view c.in_ok-push-in-Err-2.ensures.items ∙ pushed c.args.name c.args.value all c.in-Err.field-0 at (omega (arith, c.args.members.now.ok.0))

pub returns-in_ok-insert-in-Err-3-clause-put : goal.returns-in_ok-insert-in-Err-3-clause-put
returns-in_ok-insert-in-Err-3-clause-put c =
    let all = c.args.members.now.items in
    let same = ap (place_of c.args.name.now) (sym c.as_slice.ensures.value) in
    let at : place_of c.args.name.now all ≡ Err c.in-Err.field-0 = same ∙ sym c.place_of.ensures ∙ c.in-Err.is in
    ap members_view c.in_ok-insert-in-Err-3.ensures.items ∙ (inserted c.args.name c.args.value all c.in-Err.field-0 at).1
