-- A refusal comes before the attempt, or after it; else the object is added.
use Rattle.std.proofs.Common.{◌≡◌, ap, sym, subst, ℕ, List, inl, inr, Err, rules}
use Rattle.std.specs.Prelude.{Result}
use Rattle.qo_values.specs.declared.codes.Code.{Code}
use Rattle.qo_model.specs.Objects.{with_object}
use Rattle.qo_heap.specs.Board.{Shows}
use Rattle.qo_heap.specs.Objects.{Objects}
use Rattle.qo_properties.specs.Additions.{Adds}
use Rattle.qo_properties.specs.declared.refusals.Refusal.{Refusal}
use Rattle.qo_properties.specs.declared.refusals.Refusal.TheVariants.{Memory, Refused}
use Rattle.qo_properties.proofs.AddKept.{same-kept, tried-kept}
use Rattle.qo_properties.proofs.AddLemmas.{shows-tried}
use Rattle.qo_properties.proofs.ClaimLemmas.{keeps-none, tried-keeps}
use Rattle.qo_properties.proofs.AnswerLemmas.{adds-done, adds-not, adds-refused, adds-tried}
use Rattle.qo_properties.proofs.PlanningLemmas.{told-done, told-refused}
use Rattle.qo_model.specs.Objects.{with_attempt}
use Rattle.qo_properties.proofs.adding.objects.add_object.Goals as goal

pub returns-in_err-admitted-clause-change : goal.returns-in_err-admitted-clause-change
returns-in_err-admitted-clause-change g c = λ b s.
    let is : c.from_residual.result ≡ Err c.in_err-admitted.field-0.0 = search rules in
    subst (λ (r : Result (Unit {0}) Refusal). Adds b c.args.driver.now c.args.id.now c.args.props.now r c.args.heap.now) (sym is)
    (adds-not b c.args.driver.now c.args.id.now c.args.props.now c.args.heap.now s c.in_err-admitted.field-0.0
    (λ code e. c.in_err-admitted.ensures.refused b code s (ap (λ (r : Refusal). Err r) e)))

pub returns-in_err-failed_add-in-Err-Refused-clause-change : goal.returns-in_err-failed_add-in-Err-Refused-clause-change
returns-in_err-failed_add-in-Err-Refused-clause-change g c = λ b s.
    let is : c.from_residual-in_err-failed_add-in-Err-Refused.result ≡ Err Memory = search rules in
    subst (λ (r : Result (Unit {0}) Refusal). Adds b c.args.driver.now c.args.id.now c.args.props.now r c.failed_add.new.heap) (sym is)
    (adds-tried b c.args.driver.now c.args.id.now c.args.props.now c.args.heap.now c.failed_add.new.heap s c.in_ok-admitted.admitted.kind
    (c.in_ok-admitted.ensures.open b s) c.in_ok-admitted.ensures.kind (inl c.in_err-failed_add-in-Err-Refused.ensures.err))

pub returns-in-Err-Refused-clause-change : goal.returns-in-Err-Refused-clause-change
returns-in-Err-Refused-clause-change g c = λ b s.
    let is : c.plan.result ≡ Err (Refused c.in-Err-Refused.code) = cc in
    subst (λ (code : Code). Adds b c.args.driver.now c.args.id.now c.args.props.now (Err (Refused code)) c.failed_add.new.heap) (sym c.in-Err-Refused.code-is)
    (adds-refused b c.args.driver.now c.args.id.now c.args.props.now c.failed_add.new.heap c.in_ok-admitted.admitted.kind c.in-Err-Refused.code
    (c.in_ok-admitted.ensures.open b s) c.in_ok-admitted.ensures.kind (told-refused c.plan.result c.in-Err-Refused.code _ is (c.plan.ensures.refused b s))
    (subst (λ (x : Objects). Shows (with_attempt b c.in_ok-admitted.admitted.kind) x) (sym c.in_ok-failed_add-in-Err-Refused.ensures.ok)
    (shows-tried b c.args.heap.now s c.in_ok-admitted.admitted.kind)))

pub returns-in-Err-Memory-clause-change : goal.returns-in-Err-Memory-clause-change
returns-in-Err-Memory-clause-change g c = λ b s. inl s

pub returns-in_err-add_planned-in-Ok-clause-change : goal.returns-in_err-add_planned-in-Ok-clause-change
returns-in_err-add_planned-in-Ok-clause-change g c = λ b s.
    let is : c.from_residual-in_err-add_planned-in-Ok.result ≡ Err Memory = search rules in
    subst (λ (r : Result (Unit {0}) Refusal). Adds b c.args.driver.now c.args.id.now c.args.props.now r c.add_planned.new.heap) (sym is)
    (adds-tried b c.args.driver.now c.args.id.now c.args.props.now c.args.heap.now c.add_planned.new.heap s c.in_ok-admitted.admitted.kind
    (c.in_ok-admitted.ensures.open b s) c.in_ok-admitted.ensures.kind c.in_err-add_planned-in-Ok.ensures.err)

pub returns-clause-change : goal.returns-clause-change
returns-clause-change g c = λ b s.
    adds-done b c.args.driver.now c.args.id.now c.args.props.now c.add_planned.new.heap c.in_ok-admitted.admitted.kind
    (c.in_ok-admitted.ensures.open b s) c.in_ok-admitted.ensures.kind (told-done c.plan.result c.in-Ok.plan _ c.in-Ok.is (c.plan.ensures.refused b s))
    (subst (λ (name : List ℕ). Shows (with_object b c.in_ok-admitted.admitted.kind name c.args.props.now) c.add_planned.new.heap)
    c.in_ok-admitted.ensures.place.2
    (c.in_ok-add_planned-in-Ok.ensures.ok b c.args.props.now s (c.in-Ok.ensures.told b s)))

pub returns-clause-pins : goal.returns-clause-pins
returns-clause-pins g c = c.in_ok-add_planned-in-Ok.ensures.pins

pub returns-in-Err-Refused-clause-book : goal.returns-in-Err-Refused-clause-book
returns-in-Err-Refused-clause-book g c = tried-keeps c.args.heap.now c.failed_add.new.heap c.in_ok-admitted.admitted.kind
    (inr c.in_ok-failed_add-in-Err-Refused.ensures.ok)

pub returns-in_err-failed_add-in-Err-Refused-clause-book : goal.returns-in_err-failed_add-in-Err-Refused-clause-book
returns-in_err-failed_add-in-Err-Refused-clause-book g c = keeps-none c.args.heap.now c.failed_add.new.heap c.in_err-failed_add-in-Err-Refused.ensures.err

pub returns-clause-book : goal.returns-clause-book
returns-clause-book g c = c.in_ok-add_planned-in-Ok.ensures.book

pub returns-in-Err-Refused-clause-kept : goal.returns-in-Err-Refused-clause-kept
returns-in-Err-Refused-clause-kept g c =
    tried-kept c.args.heap.now c.failed_add.new.heap c.in_ok-admitted.admitted.kind (inr c.in_ok-failed_add-in-Err-Refused.ensures.ok)

pub returns-in_err-failed_add-in-Err-Refused-clause-kept : goal.returns-in_err-failed_add-in-Err-Refused-clause-kept
returns-in_err-failed_add-in-Err-Refused-clause-kept g c =
    same-kept c.args.heap.now c.failed_add.new.heap c.in_err-failed_add-in-Err-Refused.ensures.err

pub returns-clause-kept : goal.returns-clause-kept
returns-clause-kept g c = c.in_ok-add_planned-in-Ok.ensures.kept
