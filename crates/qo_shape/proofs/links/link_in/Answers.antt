-- Each member is read, or one of them is none.
use Rattle.std.proofs.Common.{◌≡◌, refl, ℕ, List, Err, ap, ◌∙◌, length, arith, rules, option_map}
use Rattle.std.specs.Prelude.{option_and_then}
use Rattle.std.proofs.lemmas.List.{length-map}
use Rattle.serde_json.specs.Data.{Data}
use Rattle.serde_json.specs.Find.{as_str}
use Rattle.qo_json.proofs.MemberLemmas.{Member}
use Rattle.qo_json.specs.View.{view}
use Rattle.qo_save.specs.Shape as shape
use Rattle.qo_save.specs.Shape.{also}
use Rattle.qo_shape.specs.Said.{link_said}
use Rattle.qo_shape.proofs.ItemLemmas.{three-first, three-second, three-third}
use Rattle.qo_shape.proofs.ReadLemmas.{reads-err, three-are, values}
use Rattle.qo_shape.proofs.links.link_in.Goals as goal

pub returns-in_err-members : goal.returns-in_err-members
returns-in_err-members c =
    let is : c.from_residual.result ≡ Err c.in_err-members.field-0.0 = search rules in
    reads-err link_said (λ (ms : List Data). ms) c.from_residual.result c.in_err-members.field-0.0 _ _ is c.in_err-members.ensures.values
    (λ none. ap (option_and_then shape.link_of) none)

pub returns-in_err-path : goal.returns-in_err-path
returns-in_err-path c =
    let many : length (values c.in_ok-members.members.now) ≡ 3 =
    length-map c.in_ok-members.members.now (λ (m : Member). view m.1) ∙ c.in_ok-members.ensures.many in
    let all : shape.link_in (view c.args.value.now) ≡ also (also (option_map shape.link_item (as_str (view c.value_at-path.result.now)))
    (as_str (view c.value_at-property.result.now))) (as_str (view c.value_at-target.result.now)) =
    ap (option_and_then shape.link_of) c.in_ok-members.ensures.values
    ∙ ap shape.link_of (three-are (values c.in_ok-members.members.now) (view c.value_at-path.result.now) (view c.value_at-property.result.now)
    (view c.value_at-target.result.now) many c.value_at-path.ensures c.value_at-property.ensures c.value_at-target.ensures) in
    let is : c.from_residual-in_err-path.result ≡ Err c.in_err-path.field-0.0 = search rules in
    reads-err link_said (λ (t : List ℕ). t) c.from_residual-in_err-path.result c.in_err-path.field-0.0 _ _ is c.in_err-path.ensures
    (λ none. all ∙ three-first shape.link_item (as_str (view c.value_at-path.result.now)) (as_str (view c.value_at-property.result.now))
    (as_str (view c.value_at-target.result.now)) none)

pub returns-in_err-property : goal.returns-in_err-property
returns-in_err-property c =
    let many : length (values c.in_ok-members.members.now) ≡ 3 =
    length-map c.in_ok-members.members.now (λ (m : Member). view m.1) ∙ c.in_ok-members.ensures.many in
    let all : shape.link_in (view c.args.value.now) ≡ also (also (option_map shape.link_item (as_str (view c.value_at-path.result.now)))
    (as_str (view c.value_at-property.result.now))) (as_str (view c.value_at-target.result.now)) =
    ap (option_and_then shape.link_of) c.in_ok-members.ensures.values
    ∙ ap shape.link_of (three-are (values c.in_ok-members.members.now) (view c.value_at-path.result.now) (view c.value_at-property.result.now)
    (view c.value_at-target.result.now) many c.value_at-path.ensures c.value_at-property.ensures c.value_at-target.ensures) in
    let is : c.from_residual-in_err-property.result ≡ Err c.in_err-property.field-0.0 = search rules in
    reads-err link_said (λ (t : List ℕ). t) c.from_residual-in_err-property.result c.in_err-property.field-0.0 _ _ is c.in_err-property.ensures
    (λ none. all ∙ three-second shape.link_item (as_str (view c.value_at-path.result.now)) (as_str (view c.value_at-property.result.now))
    (as_str (view c.value_at-target.result.now)) none)

pub returns-in_err-target : goal.returns-in_err-target
returns-in_err-target c =
    let many : length (values c.in_ok-members.members.now) ≡ 3 =
    length-map c.in_ok-members.members.now (λ (m : Member). view m.1) ∙ c.in_ok-members.ensures.many in
    let all : shape.link_in (view c.args.value.now) ≡ also (also (option_map shape.link_item (as_str (view c.value_at-path.result.now)))
    (as_str (view c.value_at-property.result.now))) (as_str (view c.value_at-target.result.now)) =
    ap (option_and_then shape.link_of) c.in_ok-members.ensures.values
    ∙ ap shape.link_of (three-are (values c.in_ok-members.members.now) (view c.value_at-path.result.now) (view c.value_at-property.result.now)
    (view c.value_at-target.result.now) many c.value_at-path.ensures c.value_at-property.ensures c.value_at-target.ensures) in
    let is : c.from_residual-in_err-target.result ≡ Err c.in_err-target.field-0.0 = search rules in
    reads-err link_said (λ (t : List ℕ). t) c.from_residual-in_err-target.result c.in_err-target.field-0.0 _ _ is c.in_err-target.ensures
    (λ none. all ∙ three-third shape.link_item (as_str (view c.value_at-path.result.now)) (as_str (view c.value_at-property.result.now))
    (as_str (view c.value_at-target.result.now)) none)

pub returns : goal.returns
returns c =
    let many : length (values c.in_ok-members.members.now) ≡ 3 =
    length-map c.in_ok-members.members.now (λ (m : Member). view m.1) ∙ c.in_ok-members.ensures.many in
    let all : shape.link_in (view c.args.value.now) ≡ also (also (option_map shape.link_item (as_str (view c.value_at-path.result.now)))
    (as_str (view c.value_at-property.result.now))) (as_str (view c.value_at-target.result.now)) =
    ap (option_and_then shape.link_of) c.in_ok-members.ensures.values
    ∙ ap shape.link_of (three-are (values c.in_ok-members.members.now) (view c.value_at-path.result.now) (view c.value_at-property.result.now)
    (view c.value_at-target.result.now) many c.value_at-path.ensures c.value_at-property.ensures c.value_at-target.ensures) in
    all ∙ rw (c.in_ok-path.ensures, c.in_ok-property.ensures, c.in_ok-target.ensures) refl
