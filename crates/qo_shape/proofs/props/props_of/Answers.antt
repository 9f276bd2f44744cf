-- One property more, or none.
use Rattle.std.proofs.Common.{◌≡◌, ℕ, List, Err, ◌∙◌, ap, sym, ◌+◌, ◌∷◌, ◌++◌, [], drop, arith, rules}
use Rattle.std.proofs.Math.ListN.{drop_of_length-le}
use Rattle.std.proofs.lemmas.List.{drop_more}
use Rattle.qo_json.proofs.MemberLemmas.{Member}
use Rattle.qo_values.proofs.NameOrder.{above_those_before}
use Rattle.qo_values.specs.PropertyLists.{NamesRise, names_of}
use Rattle.qo_shape.proofs.PropLemmas.{LeftProps, names_left, names-rise, props-first, props-last, props-none, props-slot}
use Rattle.qo_shape.proofs.ReadLemmas.{Given, reads-err}
use Rattle.qo_shape.proofs.props.props_of.Goals as goal

pub loop-member-init : goal.loop-member-init
loop-member-init c =
    rw c.new-props.ensures (record { read = props-first c.args.members.now; rise = names-rise c.args.members.now c.requires })

pub returns-then-eq : goal.returns-then-eq
returns-then-eq c =
    let all = c.args.members.now in
    let i = c.loop-member.member-index in
    let m : Member = c.member-item.result in
    let here : drop i all ≡ m ∷ drop (i + 1) all = drop_more all i m (omega arith) ∙ ap (λ (n : Member). n ∷ drop (i + 1) all) (sym c.member-item.is) in
    let was : LeftProps all c.loop-member.props (m ∷ drop (i + 1) all) = rw here at c.loop-member.invariant.read in
    props-slot all c.loop-member.props m (drop (i + 1) all) was (grind arith)

pub returns-in_err-val : goal.returns-in_err-val
returns-in_err-val c =
    let all = c.args.members.now in
    let i = c.loop-member.member-index in
    let m : Member = c.member-item.result in
    let here : drop i all ≡ m ∷ drop (i + 1) all = drop_more all i m (omega arith) ∙ ap (λ (n : Member). n ∷ drop (i + 1) all) (sym c.member-item.is) in
    let was : LeftProps all c.loop-member.props (m ∷ drop (i + 1) all) = rw here at c.loop-member.invariant.read in
    let is : c.from_residual.result ≡ Err c.in_err-val.field-0.0 = search rules in
    reads-err (λ (ps : List Given). ps) (λ v. v) c.from_residual.result c.in_err-val.field-0.0 _ _ is c.in_err-val.ensures
    (λ none. props-none all c.loop-member.props m (drop (i + 1) all) was (grind arith) none)

pub put-requires : goal.put-requires
put-requires c =
    let all = c.args.members.now in
    let i = c.loop-member.member-index in
    let m : Member = c.member-item.result in
    let here : drop i all ≡ m ∷ drop (i + 1) all = drop_more all i m (omega arith) ∙ ap (λ (n : Member). n ∷ drop (i + 1) all) (sym c.member-item.is) in
    let done = names_of c.loop-member.props in
    let name : c.from_string-name.result ≡ m.0.now = search rules in
    let rise : NamesRise (done ++ m.0.now ∷ names_left (drop (i + 1) all)) = rw here at c.loop-member.invariant.rise in
    rw name (above_those_before done (names_left (drop (i + 1) all)) m.0.now rise)

pub returns : goal.returns
returns c =
    let all = c.args.members.now in
    let none : drop c.loop-member.member-index all ≡ [] = drop_of_length-le all (omega arith) in
    props-last all c.loop-member.props (rw none at c.loop-member.invariant.read)
