-- Two writes, one after the other.
use Rattle.std.proofs.Common.{◌≡◌, ℕ, Err, List, ◌∙◌, ap, sym, subst, rules, ◌∷◌, [], codes}
use Rattle.qo_realize.specs.Answers.{Writes}
use Rattle.qo_save.specs.Rebuilding.{set_number}
use Rattle.qo_rebuild.proofs.StepLemmas.{one-done, step-goes, step-stops, then-writes}
use Rattle.qo_rebuild.proofs.clocks.scale_clock.Goals as goal

pub returns-in_err-set_number : goal.returns-in_err-set_number
returns-in_err-set_number g c = λ b s.
    let is : c.from_residual.result ≡ Err c.in_err-set_number.field-0.0 = search rules in
    step-stops (set_number c.args.clock.now.path (codes "div") c.args.clock.now.div) (set_number c.args.clock.now.path (codes "mul") c.args.clock.now.mul ∷ [])
    b
    c.set_number.new.board c.set_number.new.board c.from_residual.result c.in_err-set_number.field-0.0 is
    (rw (← c.as_str.ensures) (c.in_err-set_number.ensures b s))

pub returns : goal.returns
returns g c = λ b s.
    let first = c.in_ok-set_number.ensures b s in
    then-writes c.set_number-2.new.board c.set_number-2.result _ _
    (step-goes (set_number c.args.clock.now.path (codes "div") c.args.clock.now.div) (set_number c.args.clock.now.path (codes "mul") c.args.clock.now.mul ∷ [])
    b first.0 (ap (λ (path : List ℕ). set_number path (codes "div") c.args.clock.now.div b) (sym c.as_str.ensures) ∙ first.1)
    ∙ one-done (set_number c.args.clock.now.path (codes "mul") c.args.clock.now.mul) first.0)
    (subst (λ (path : List ℕ). Writes c.set_number-2.new.board c.set_number-2.result (set_number path (codes "mul") c.args.clock.now.mul first.0))
    c.as_str-2.ensures (c.set_number-2.ensures first.0 first.2))
