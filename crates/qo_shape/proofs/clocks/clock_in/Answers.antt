-- Each member is read, or one of them is none.
use Rattle.std.proofs.Common.{◌≡◌, refl, ℕ, List, Err, ap, ◌∙◌, length, arith, rules, option_map}
use Rattle.std.specs.Prelude.{option_and_then}
use Rattle.std.proofs.lemmas.List.{length-map}
use Rattle.serde_json.specs.Data.{Data}
use Rattle.qo_json.proofs.MemberLemmas.{Member}
use Rattle.qo_json.specs.View.{view}
use Rattle.qo_save.specs.Shape as shape
use Rattle.qo_save.specs.Shape.{also, whole_in}
use Rattle.qo_shape.specs.Said.{numbers_said}
use Rattle.qo_shape.proofs.ItemLemmas.{three-first, three-second, three-third}
use Rattle.qo_shape.proofs.ReadLemmas.{reads-err, three-are, values}
use Rattle.qo_shape.proofs.clocks.clock_in.Goals as goal

pub returns-in_err-members : goal.returns-in_err-members
returns-in_err-members c =
    let is : c.from_residual.result ≡ Err c.in_err-members.field-0.0 = search rules in
    reads-err numbers_said (λ (ms : List Data). ms) c.from_residual.result c.in_err-members.field-0.0 _ _ is c.in_err-members.ensures.values
    (λ none. ap (option_and_then shape.clock_of) none)

pub returns-in_err-div : goal.returns-in_err-div
returns-in_err-div c =
    let many : length (values c.in_ok-members.members.now) ≡ 3 =
    length-map c.in_ok-members.members.now (λ (m : Member). view m.1) ∙ c.in_ok-members.ensures.many in
    let all : shape.clock_in (view c.args.value.now) ≡ also (also (option_map shape.clock_numbers (whole_in (view c.value_at-div.result.now)))
    (whole_in (view c.value_at-mul.result.now))) (whole_in (view c.value_at-period.result.now)) =
    ap (option_and_then shape.clock_of) c.in_ok-members.ensures.values
    ∙ ap shape.clock_of (three-are (values c.in_ok-members.members.now) (view c.value_at-div.result.now) (view c.value_at-mul.result.now)
    (view c.value_at-period.result.now) many c.value_at-div.ensures c.value_at-mul.ensures c.value_at-period.ensures) in
    let is : c.from_residual-in_err-div.result ≡ Err c.in_err-div.field-0.0 = search rules in
    reads-err numbers_said (λ (n : ℕ). n) c.from_residual-in_err-div.result c.in_err-div.field-0.0 _ _ is c.in_err-div.ensures
    (λ none. all ∙ three-first shape.clock_numbers (whole_in (view c.value_at-div.result.now)) (whole_in (view c.value_at-mul.result.now))
    (whole_in (view c.value_at-period.result.now)) none)

pub returns-in_err-mul : goal.returns-in_err-mul
returns-in_err-mul c =
    let many : length (values c.in_ok-members.members.now) ≡ 3 =
    length-map c.in_ok-members.members.now (λ (m : Member). view m.1) ∙ c.in_ok-members.ensures.many in
    let all : shape.clock_in (view c.args.value.now) ≡ also (also (option_map shape.clock_numbers (whole_in (view c.value_at-div.result.now)))
    (whole_in (view c.value_at-mul.result.now))) (whole_in (view c.value_at-period.result.now)) =
    ap (option_and_then shape.clock_of) c.in_ok-members.ensures.values
    ∙ ap shape.clock_of (three-are (values c.in_ok-members.members.now) (view c.value_at-div.result.now) (view c.value_at-mul.result.now)
    (view c.value_at-period.result.now) many c.value_at-div.ensures c.value_at-mul.ensures c.value_at-period.ensures) in
    let is : c.from_residual-in_err-mul.result ≡ Err c.in_err-mul.field-0.0 = search rules in
    reads-err numbers_said (λ (n : ℕ). n) c.from_residual-in_err-mul.result c.in_err-mul.field-0.0 _ _ is c.in_err-mul.ensures
    (λ none. all ∙ three-second shape.clock_numbers (whole_in (view c.value_at-div.result.now)) (whole_in (view c.value_at-mul.result.now))
    (whole_in (view c.value_at-period.result.now)) none)

pub returns-in_err-period : goal.returns-in_err-period
returns-in_err-period c =
    let many : length (values c.in_ok-members.members.now) ≡ 3 =
    length-map c.in_ok-members.members.now (λ (m : Member). view m.1) ∙ c.in_ok-members.ensures.many in
    let all : shape.clock_in (view c.args.value.now) ≡ also (also (option_map shape.clock_numbers (whole_in (view c.value_at-div.result.now)))
    (whole_in (view c.value_at-mul.result.now))) (whole_in (view c.value_at-period.result.now)) =
    ap (option_and_then shape.clock_of) c.in_ok-members.ensures.values
    ∙ ap shape.clock_of (three-are (values c.in_ok-members.members.now) (view c.value_at-div.result.now) (view c.value_at-mul.result.now)
    (view c.value_at-period.result.now) many c.value_at-div.ensures c.value_at-mul.ensures c.value_at-period.ensures) in
    let is : c.from_residual-in_err-period.result ≡ Err c.in_err-period.field-0.0 = search rules in
    reads-err numbers_said (λ (n : ℕ). n) c.from_residual-in_err-period.result c.in_err-period.field-0.0 _ _ is c.in_err-period.ensures
    (λ none. all ∙ three-third shape.clock_numbers (whole_in (view c.value_at-div.result.now)) (whole_in (view c.value_at-mul.result.now))
    (whole_in (view c.value_at-period.result.now)) none)

pub returns : goal.returns
returns c =
    let many : length (values c.in_ok-members.members.now) ≡ 3 =
    length-map c.in_ok-members.members.now (λ (m : Member). view m.1) ∙ c.in_ok-members.ensures.many in
    let all : shape.clock_in (view c.args.value.now) ≡ also (also (option_map shape.clock_numbers (whole_in (view c.value_at-div.result.now)))
    (whole_in (view c.value_at-mul.result.now))) (whole_in (view c.value_at-period.result.now)) =
    ap (option_and_then shape.clock_of) c.in_ok-members.ensures.values
    ∙ ap shape.clock_of (three-are (values c.in_ok-members.members.now) (view c.value_at-div.result.now) (view c.value_at-mul.result.now)
    (view c.value_at-period.result.now) many c.value_at-div.ensures c.value_at-mul.ensures c.value_at-period.ensures) in
    all ∙ rw (c.in_ok-div.ensures, c.in_ok-mul.ensures, c.in_ok-period.ensures) refl
