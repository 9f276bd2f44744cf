-- Each member is read, or one of them is none.
use Rattle.std.proofs.Common.{◌≡◌, refl, ℕ, List, Err, ap, ◌∙◌, length, arith, rules, option_map}
use Rattle.std.specs.Prelude.{option_and_then}
use Rattle.std.proofs.lemmas.List.{length-map}
use Rattle.serde_json.specs.Data.{Data}
use Rattle.serde_json.specs.Find.{as_str}
use Rattle.qo_json.proofs.MemberLemmas.{Member}
use Rattle.qo_json.specs.View.{view}
use Rattle.qo_save.specs.Description.{object_names}
use Rattle.qo_save.specs.Shape as shape
use Rattle.qo_save.specs.Shape.{also, props_in}
use Rattle.qo_shape.specs.Said.{object_said}
use Rattle.qo_shape.proofs.ItemLemmas.{three-first, three-second, three-third}
use Rattle.qo_shape.proofs.ReadLemmas.{Given, ordered-at, reads-err, three-are, values}
use Rattle.qo_shape.proofs.objects.object_in.Goals as goal

pub returns-in_err-members : goal.returns-in_err-members
returns-in_err-members c =
    let is : c.from_residual.result ≡ Err c.in_err-members.field-0.0 = search rules in
    reads-err object_said (λ (ms : List Data). ms) c.from_residual.result c.in_err-members.field-0.0 _ _ is c.in_err-members.ensures.values
    (λ none. ap (option_and_then shape.object_of) none)

pub returns-in_err-id : goal.returns-in_err-id
returns-in_err-id c =
    let many : length (values c.in_ok-members.members.now) ≡ 3 =
    length-map c.in_ok-members.members.now (λ (m : Member). view m.1) ∙ c.in_ok-members.ensures.many in
    let all : shape.object_in (view c.args.value.now) ≡ also (also (option_map shape.object_item (as_str (view c.value_at-id.result.now)))
    (props_in (view c.value_at-props.result.now))) (as_str (view c.value_at-kind.result.now)) =
    ap (option_and_then shape.object_of) c.in_ok-members.ensures.values
    ∙ ap shape.object_of (three-are (values c.in_ok-members.members.now) (view c.value_at-id.result.now) (view c.value_at-props.result.now)
    (view c.value_at-kind.result.now) many c.value_at-id.ensures c.value_at-props.ensures c.value_at-kind.ensures) in
    let is : c.from_residual-in_err-id.result ≡ Err c.in_err-id.field-0.0 = search rules in
    reads-err object_said (λ (t : List ℕ). t) c.from_residual-in_err-id.result c.in_err-id.field-0.0 _ _ is c.in_err-id.ensures
    (λ none. all ∙ three-first shape.object_item (as_str (view c.value_at-id.result.now)) (props_in (view c.value_at-props.result.now))
    (as_str (view c.value_at-kind.result.now)) none)

pub returns-in_err-props : goal.returns-in_err-props
returns-in_err-props c =
    let many : length (values c.in_ok-members.members.now) ≡ 3 =
    length-map c.in_ok-members.members.now (λ (m : Member). view m.1) ∙ c.in_ok-members.ensures.many in
    let all : shape.object_in (view c.args.value.now) ≡ also (also (option_map shape.object_item (as_str (view c.value_at-id.result.now)))
    (props_in (view c.value_at-props.result.now))) (as_str (view c.value_at-kind.result.now)) =
    ap (option_and_then shape.object_of) c.in_ok-members.ensures.values
    ∙ ap shape.object_of (three-are (values c.in_ok-members.members.now) (view c.value_at-id.result.now) (view c.value_at-props.result.now)
    (view c.value_at-kind.result.now) many c.value_at-id.ensures c.value_at-props.ensures c.value_at-kind.ensures) in
    let is : c.from_residual-in_err-props.result ≡ Err c.in_err-props.field-0.0 = search rules in
    reads-err object_said (λ (ps : List Given). ps) c.from_residual-in_err-props.result c.in_err-props.field-0.0 _ _ is c.in_err-props.ensures
    (λ none. all ∙ three-second shape.object_item (as_str (view c.value_at-id.result.now)) (props_in (view c.value_at-props.result.now))
    (as_str (view c.value_at-kind.result.now)) none)

pub returns-in_err-kind : goal.returns-in_err-kind
returns-in_err-kind c =
    let many : length (values c.in_ok-members.members.now) ≡ 3 =
    length-map c.in_ok-members.members.now (λ (m : Member). view m.1) ∙ c.in_ok-members.ensures.many in
    let all : shape.object_in (view c.args.value.now) ≡ also (also (option_map shape.object_item (as_str (view c.value_at-id.result.now)))
    (props_in (view c.value_at-props.result.now))) (as_str (view c.value_at-kind.result.now)) =
    ap (option_and_then shape.object_of) c.in_ok-members.ensures.values
    ∙ ap shape.object_of (three-are (values c.in_ok-members.members.now) (view c.value_at-id.result.now) (view c.value_at-props.result.now)
    (view c.value_at-kind.result.now) many c.value_at-id.ensures c.value_at-props.ensures c.value_at-kind.ensures) in
    let is : c.from_residual-in_err-kind.result ≡ Err c.in_err-kind.field-0.0 = search rules in
    reads-err object_said (λ (t : List ℕ). t) c.from_residual-in_err-kind.result c.in_err-kind.field-0.0 _ _ is c.in_err-kind.ensures
    (λ none. all ∙ three-third shape.object_item (as_str (view c.value_at-id.result.now)) (props_in (view c.value_at-props.result.now))
    (as_str (view c.value_at-kind.result.now)) none)

pub props_in-requires : goal.props_in-requires
props_in-requires c =
    ordered-at object_names (view c.args.value.now) (values c.in_ok-members.members.now) 1 (view c.value_at-props.result.now) c.requires c.in_ok-members.ensures.values
    c.value_at-props.ensures

pub returns : goal.returns
returns c =
    let many : length (values c.in_ok-members.members.now) ≡ 3 =
    length-map c.in_ok-members.members.now (λ (m : Member). view m.1) ∙ c.in_ok-members.ensures.many in
    let all : shape.object_in (view c.args.value.now) ≡ also (also (option_map shape.object_item (as_str (view c.value_at-id.result.now)))
    (props_in (view c.value_at-props.result.now))) (as_str (view c.value_at-kind.result.now)) =
    ap (option_and_then shape.object_of) c.in_ok-members.ensures.values
    ∙ ap shape.object_of (three-are (values c.in_ok-members.members.now) (view c.value_at-id.result.now) (view c.value_at-props.result.now)
    (view c.value_at-kind.result.now) many c.value_at-id.ensures c.value_at-props.ensures c.value_at-kind.ensures) in
    all ∙ rw (c.in_ok-id.ensures, c.in_ok-props.ensures, c.in_ok-kind.ensures) refl
