-- Each member is read, or one of them is none.
use Rattle.std.proofs.Common.{◌≡◌, refl, ℕ, List, Err, ap, ◌∙◌, length, arith, rules, option_map}
use Rattle.std.specs.Prelude.{option_and_then}
use Rattle.std.proofs.lemmas.List.{length-map}
use Rattle.serde_json.specs.Data.{Data}
use Rattle.serde_json.specs.Find.{as_str}
use Rattle.qo_json.proofs.MemberLemmas.{Member}
use Rattle.qo_json.specs.View.{view}
use Rattle.qo_save.specs.Description.{device_names}
use Rattle.qo_save.specs.Shape as shape
use Rattle.qo_save.specs.Shape.{also, props_in, whole_in}
use Rattle.qo_shape.specs.Said.{device_said}
use Rattle.qo_shape.proofs.ItemLemmas.{five-fifth, five-first, five-fourth, five-second, five-third}
use Rattle.qo_shape.proofs.ReadLemmas.{Given, ordered-at, reads-err, five-are, values}
use Rattle.qo_shape.proofs.devices.device_in.Goals as goal

pub returns-in_err-members : goal.returns-in_err-members
returns-in_err-members c =
    let is : c.from_residual.result ≡ Err c.in_err-members.field-0.0 = search rules in
    reads-err device_said (λ (ms : List Data). ms) c.from_residual.result c.in_err-members.field-0.0 _ _ is c.in_err-members.ensures.values
    (λ none. ap (option_and_then shape.device_of) none)

pub returns-in_err-bus : goal.returns-in_err-bus
returns-in_err-bus c =
    let many : length (values c.in_ok-members.members.now) ≡ 5 =
    length-map c.in_ok-members.members.now (λ (m : Member). view m.1) ∙ c.in_ok-members.ensures.many in
    let all : shape.device_in (view c.args.value.now)
    ≡ also (also (also (also (option_map shape.device_item (as_str (view c.value_at-bus.result.now))) (as_str (view c.value_at-driver.result.now)))
    (as_str (view c.value_at-id.result.now))) (props_in (view c.value_at-props.result.now))) (whole_in (view c.value_at-slot.result.now)) =
    ap (option_and_then shape.device_of) c.in_ok-members.ensures.values
    ∙ ap shape.device_of (five-are (values c.in_ok-members.members.now) (view c.value_at-bus.result.now) (view c.value_at-driver.result.now)
    (view c.value_at-id.result.now) (view c.value_at-props.result.now) (view c.value_at-slot.result.now) many c.value_at-bus.ensures
    c.value_at-driver.ensures c.value_at-id.ensures c.value_at-props.ensures c.value_at-slot.ensures) in
    let is : c.from_residual-in_err-bus.result ≡ Err c.in_err-bus.field-0.0 = search rules in
    reads-err device_said (λ (t : List ℕ). t) c.from_residual-in_err-bus.result c.in_err-bus.field-0.0 _ _ is c.in_err-bus.ensures
    (λ none. all ∙ five-first shape.device_item (as_str (view c.value_at-bus.result.now)) (as_str (view c.value_at-driver.result.now))
    (as_str (view c.value_at-id.result.now)) (props_in (view c.value_at-props.result.now)) (whole_in (view c.value_at-slot.result.now)) none)

pub returns-in_err-driver : goal.returns-in_err-driver
returns-in_err-driver c =
    let many : length (values c.in_ok-members.members.now) ≡ 5 =
    length-map c.in_ok-members.members.now (λ (m : Member). view m.1) ∙ c.in_ok-members.ensures.many in
    let all : shape.device_in (view c.args.value.now)
    ≡ also (also (also (also (option_map shape.device_item (as_str (view c.value_at-bus.result.now))) (as_str (view c.value_at-driver.result.now)))
    (as_str (view c.value_at-id.result.now))) (props_in (view c.value_at-props.result.now))) (whole_in (view c.value_at-slot.result.now)) =
    ap (option_and_then shape.device_of) c.in_ok-members.ensures.values
    ∙ ap shape.device_of (five-are (values c.in_ok-members.members.now) (view c.value_at-bus.result.now) (view c.value_at-driver.result.now)
    (view c.value_at-id.result.now) (view c.value_at-props.result.now) (view c.value_at-slot.result.now) many c.value_at-bus.ensures
    c.value_at-driver.ensures c.value_at-id.ensures c.value_at-props.ensures c.value_at-slot.ensures) in
    let is : c.from_residual-in_err-driver.result ≡ Err c.in_err-driver.field-0.0 = search rules in
    reads-err device_said (λ (t : List ℕ). t) c.from_residual-in_err-driver.result c.in_err-driver.field-0.0 _ _ is c.in_err-driver.ensures
    (λ none. all ∙ five-second shape.device_item (as_str (view c.value_at-bus.result.now)) (as_str (view c.value_at-driver.result.now))
    (as_str (view c.value_at-id.result.now)) (props_in (view c.value_at-props.result.now)) (whole_in (view c.value_at-slot.result.now)) none)

pub returns-in_err-id : goal.returns-in_err-id
returns-in_err-id c =
    let many : length (values c.in_ok-members.members.now) ≡ 5 =
    length-map c.in_ok-members.members.now (λ (m : Member). view m.1) ∙ c.in_ok-members.ensures.many in
    let all : shape.device_in (view c.args.value.now)
    ≡ also (also (also (also (option_map shape.device_item (as_str (view c.value_at-bus.result.now))) (as_str (view c.value_at-driver.result.now)))
    (as_str (view c.value_at-id.result.now))) (props_in (view c.value_at-props.result.now))) (whole_in (view c.value_at-slot.result.now)) =
    ap (option_and_then shape.device_of) c.in_ok-members.ensures.values
    ∙ ap shape.device_of (five-are (values c.in_ok-members.members.now) (view c.value_at-bus.result.now) (view c.value_at-driver.result.now)
    (view c.value_at-id.result.now) (view c.value_at-props.result.now) (view c.value_at-slot.result.now) many c.value_at-bus.ensures
    c.value_at-driver.ensures c.value_at-id.ensures c.value_at-props.ensures c.value_at-slot.ensures) in
    let is : c.from_residual-in_err-id.result ≡ Err c.in_err-id.field-0.0 = search rules in
    reads-err device_said (λ (t : List ℕ). t) c.from_residual-in_err-id.result c.in_err-id.field-0.0 _ _ is c.in_err-id.ensures
    (λ none. all ∙ five-third shape.device_item (as_str (view c.value_at-bus.result.now)) (as_str (view c.value_at-driver.result.now))
    (as_str (view c.value_at-id.result.now)) (props_in (view c.value_at-props.result.now)) (whole_in (view c.value_at-slot.result.now)) none)

pub returns-in_err-props : goal.returns-in_err-props
returns-in_err-props c =
    let many : length (values c.in_ok-members.members.now) ≡ 5 =
    length-map c.in_ok-members.members.now (λ (m : Member). view m.1) ∙ c.in_ok-members.ensures.many in
    let all : shape.device_in (view c.args.value.now)
    ≡ also (also (also (also (option_map shape.device_item (as_str (view c.value_at-bus.result.now))) (as_str (view c.value_at-driver.result.now)))
    (as_str (view c.value_at-id.result.now))) (props_in (view c.value_at-props.result.now))) (whole_in (view c.value_at-slot.result.now)) =
    ap (option_and_then shape.device_of) c.in_ok-members.ensures.values
    ∙ ap shape.device_of (five-are (values c.in_ok-members.members.now) (view c.value_at-bus.result.now) (view c.value_at-driver.result.now)
    (view c.value_at-id.result.now) (view c.value_at-props.result.now) (view c.value_at-slot.result.now) many c.value_at-bus.ensures
    c.value_at-driver.ensures c.value_at-id.ensures c.value_at-props.ensures c.value_at-slot.ensures) in
    let is : c.from_residual-in_err-props.result ≡ Err c.in_err-props.field-0.0 = search rules in
    reads-err device_said (λ (ps : List Given). ps) c.from_residual-in_err-props.result c.in_err-props.field-0.0 _ _ is c.in_err-props.ensures
    (λ none. all ∙ five-fourth shape.device_item (as_str (view c.value_at-bus.result.now)) (as_str (view c.value_at-driver.result.now))
    (as_str (view c.value_at-id.result.now)) (props_in (view c.value_at-props.result.now)) (whole_in (view c.value_at-slot.result.now)) none)

pub returns-in_err-slot : goal.returns-in_err-slot
returns-in_err-slot c =
    let many : length (values c.in_ok-members.members.now) ≡ 5 =
    length-map c.in_ok-members.members.now (λ (m : Member). view m.1) ∙ c.in_ok-members.ensures.many in
    let all : shape.device_in (view c.args.value.now)
    ≡ also (also (also (also (option_map shape.device_item (as_str (view c.value_at-bus.result.now))) (as_str (view c.value_at-driver.result.now)))
    (as_str (view c.value_at-id.result.now))) (props_in (view c.value_at-props.result.now))) (whole_in (view c.value_at-slot.result.now)) =
    ap (option_and_then shape.device_of) c.in_ok-members.ensures.values
    ∙ ap shape.device_of (five-are (values c.in_ok-members.members.now) (view c.value_at-bus.result.now) (view c.value_at-driver.result.now)
    (view c.value_at-id.result.now) (view c.value_at-props.result.now) (view c.value_at-slot.result.now) many c.value_at-bus.ensures
    c.value_at-driver.ensures c.value_at-id.ensures c.value_at-props.ensures c.value_at-slot.ensures) in
    let is : c.from_residual-in_err-slot.result ≡ Err c.in_err-slot.field-0.0 = search rules in
    reads-err device_said (λ (n : ℕ). n) c.from_residual-in_err-slot.result c.in_err-slot.field-0.0 _ _ is c.in_err-slot.ensures
    (λ none. all ∙ five-fifth shape.device_item (as_str (view c.value_at-bus.result.now)) (as_str (view c.value_at-driver.result.now))
    (as_str (view c.value_at-id.result.now)) (props_in (view c.value_at-props.result.now)) (whole_in (view c.value_at-slot.result.now)) none)

pub props_in-requires : goal.props_in-requires
props_in-requires c =
    ordered-at device_names (view c.args.value.now) (values c.in_ok-members.members.now) 3 (view c.value_at-props.result.now) c.requires c.in_ok-members.ensures.values
    c.value_at-props.ensures

pub returns : goal.returns
returns c =
    let many : length (values c.in_ok-members.members.now) ≡ 5 =
    length-map c.in_ok-members.members.now (λ (m : Member). view m.1) ∙ c.in_ok-members.ensures.many in
    let all : shape.device_in (view c.args.value.now)
    ≡ also (also (also (also (option_map shape.device_item (as_str (view c.value_at-bus.result.now))) (as_str (view c.value_at-driver.result.now)))
    (as_str (view c.value_at-id.result.now))) (props_in (view c.value_at-props.result.now))) (whole_in (view c.value_at-slot.result.now)) =
    ap (option_and_then shape.device_of) c.in_ok-members.ensures.values
    ∙ ap shape.device_of (five-are (values c.in_ok-members.members.now) (view c.value_at-bus.result.now) (view c.value_at-driver.result.now)
    (view c.value_at-id.result.now) (view c.value_at-props.result.now) (view c.value_at-slot.result.now) many c.value_at-bus.ensures
    c.value_at-driver.ensures c.value_at-id.ensures c.value_at-props.ensures c.value_at-slot.ensures) in
    all ∙ rw (c.in_ok-bus.ensures, c.in_ok-driver.ensures, c.in_ok-id.ensures, c.in_ok-props.ensures, c.in_ok-slot.ensures) refl
