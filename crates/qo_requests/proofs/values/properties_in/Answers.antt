use Rattle.std.proofs.Common.{◌≡◌, refl, ◌∙◌, ap, sym, ◌+◌, ◌∷◌, ◌++◌, drop, true, arith, rules}
use Rattle.std.proofs.lemmas.List.{drop_more}
use Rattle.qo_json.proofs.MemberLemmas.{Member}
use Rattle.qo_json.specs.View.{members_view}
use Rattle.qo_values.proofs.NameOrder.{above_those_before, rises_without}
use Rattle.qo_values.specs.PropertyLists.{names_of, NamesRise}
use Rattle.qo_requests.specs.Arguments.{is_named}
use Rattle.qo_requests.specs.Values.{properties_in}
use Rattle.qo_requests.proofs.MemberSteps.{named_passed}
use Rattle.qo_requests.proofs.NameOrder.{names_left, names_rise}
use Rattle.qo_requests.proofs.values.properties_in.Goals as goal

pub loop-member-init : goal.loop-member-init
loop-member-init c =
    rw c.new-props.ensures (record { read = refl; rise = names_rise c.args.members.now c.requires })

pub put-requires : goal.put-requires
put-requires c =
    let all = c.args.members.now in
    let i = c.loop-member.member-index in
    let m : Member = c.member-item.result in
    let here : drop i all ≡ m ∷ drop (i + 1) all = drop_more all i m (omega arith) ∙ ap (λ (n : Member). n ∷ drop (i + 1) all) (sym c.member-item.is) in
    let done = names_of c.loop-member.props in
    let name : c.from_string-name.result ≡ m.0.now = c.from_string-name.ensures ∙ c.in_ok-from_str.ensures.ok in
    let rise : NamesRise (done ++ m.0.now ∷ names_left (drop (i + 1) all)) = rw here at c.loop-member.invariant.rise in
    rw name (above_those_before done (names_left (drop (i + 1) all)) m.0.now rise)

pub loop-member-preserved-then-is_named : goal.loop-member-preserved-then-is_named
loop-member-preserved-then-is_named c =
    let rows = c.args.rows.now in
    let done = c.loop-member.props in
    let all = c.args.members.now in
    let i = c.loop-member.member-index in
    let m : Member = c.member-item.result in
    let left = drop (i + 1) all in
    let here : drop i all ≡ m ∷ left = drop_more all i m (omega arith) ∙ ap (λ (n : Member). n ∷ left) (sym c.member-item.is) in
    let named : is_named rows m.0.now ≡ true = search rules in
    let read = ap (λ ms. done ++ properties_in rows (members_view ms)) here in
    let rise : NamesRise (names_of done ++ m.0.now ∷ names_left left) = rw here at c.loop-member.invariant.rise in
    record {
      read = c.loop-member.invariant.read ∙ read ∙ ap (λ more. done ++ more) (named_passed rows m left named);
      rise = rises_without (names_of done) (names_left left) m.0.now rise;
    }
