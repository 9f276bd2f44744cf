-- Each member is read, or one of them is none.
use Rattle.std.proofs.Common.{◌≡◌, refl, ℕ, List, Err, ap, ◌∙◌, length, arith, rules, option_map}
use Rattle.std.specs.Prelude.{option_and_then}
use Rattle.std.proofs.lemmas.List.{length-map}
use Rattle.serde_json.specs.Data.{Data}
use Rattle.serde_json.specs.Find.{as_str}
use Rattle.qo_json.proofs.MemberLemmas.{Member}
use Rattle.qo_json.specs.View.{view}
use Rattle.qo_save.specs.Shape as shape
use Rattle.qo_save.specs.Shape.{also, whole_in}
use Rattle.qo_shape.specs.Said.{ring_said}
use Rattle.qo_shape.proofs.ItemLemmas.{two-first, two-second}
use Rattle.qo_shape.proofs.ReadLemmas.{reads-err, two-are, values}
use Rattle.qo_shape.proofs.rings.ring_in.Goals as goal

pub returns-in_err-members : goal.returns-in_err-members
returns-in_err-members c =
    let is : c.from_residual.result ≡ Err c.in_err-members.field-0.0 = search rules in
    reads-err ring_said (λ (ms : List Data). ms) c.from_residual.result c.in_err-members.field-0.0 _ _ is c.in_err-members.ensures.values
    (λ none. ap (option_and_then shape.ring_of) none)

pub returns-in_err-id : goal.returns-in_err-id
returns-in_err-id c =
    let many : length (values c.in_ok-members.members.now) ≡ 2 =
    length-map c.in_ok-members.members.now (λ (m : Member). view m.1) ∙ c.in_ok-members.ensures.many in
    let all : shape.ring_in (view c.args.value.now)
    ≡ also (option_map shape.ring_item (as_str (view c.value_at-id.result.now))) (whole_in (view c.value_at-size.result.now)) =
    ap (option_and_then shape.ring_of) c.in_ok-members.ensures.values ∙ ap shape.ring_of (two-are (values c.in_ok-members.members.now)
    (view c.value_at-id.result.now) (view c.value_at-size.result.now) many c.value_at-id.ensures c.value_at-size.ensures) in
    let is : c.from_residual-in_err-id.result ≡ Err c.in_err-id.field-0.0 = search rules in
    reads-err ring_said (λ (t : List ℕ). t) c.from_residual-in_err-id.result c.in_err-id.field-0.0 _ _ is c.in_err-id.ensures
    (λ none. all ∙ two-first shape.ring_item (as_str (view c.value_at-id.result.now)) (whole_in (view c.value_at-size.result.now)) none)

pub returns-in_err-size : goal.returns-in_err-size
returns-in_err-size c =
    let many : length (values c.in_ok-members.members.now) ≡ 2 =
    length-map c.in_ok-members.members.now (λ (m : Member). view m.1) ∙ c.in_ok-members.ensures.many in
    let all : shape.ring_in (view c.args.value.now)
    ≡ also (option_map shape.ring_item (as_str (view c.value_at-id.result.now))) (whole_in (view c.value_at-size.result.now)) =
    ap (option_and_then shape.ring_of) c.in_ok-members.ensures.values ∙ ap shape.ring_of (two-are (values c.in_ok-members.members.now)
    (view c.value_at-id.result.now) (view c.value_at-size.result.now) many c.value_at-id.ensures c.value_at-size.ensures) in
    let is : c.from_residual-in_err-size.result ≡ Err c.in_err-size.field-0.0 = search rules in
    reads-err ring_said (λ (n : ℕ). n) c.from_residual-in_err-size.result c.in_err-size.field-0.0 _ _ is c.in_err-size.ensures
    (λ none. all ∙ two-second shape.ring_item (as_str (view c.value_at-id.result.now)) (whole_in (view c.value_at-size.result.now)) none)

pub returns : goal.returns
returns c =
    let many : length (values c.in_ok-members.members.now) ≡ 2 =
    length-map c.in_ok-members.members.now (λ (m : Member). view m.1) ∙ c.in_ok-members.ensures.many in
    let all : shape.ring_in (view c.args.value.now)
    ≡ also (option_map shape.ring_item (as_str (view c.value_at-id.result.now))) (whole_in (view c.value_at-size.result.now)) =
    ap (option_and_then shape.ring_of) c.in_ok-members.ensures.values ∙ ap shape.ring_of (two-are (values c.in_ok-members.members.now)
    (view c.value_at-id.result.now) (view c.value_at-size.result.now) many c.value_at-id.ensures c.value_at-size.ensures) in
    all ∙ rw (c.in_ok-id.ensures, c.in_ok-size.ensures) refl
