-- Three writes, one after another.
use Rattle.std.proofs.Common.{◌≡◌, ℕ, Err, ◌∙◌, rules, List, ◌∷◌, [], codes}
use Rattle.qo_save.specs.Rebuilding.{Step, set_number}
use Rattle.qo_rebuild.proofs.StepLemmas.{one-done, step-goes, step-stops, then-writes}
use Rattle.qo_rebuild.proofs.clocks.set_clock.Goals as goal

abbrev of_system : List ℕ → ℕ → Step
of_system name number = set_number (codes "/machine/sysclk") name number

pub returns-in_err-set_number : goal.returns-in_err-set_number
returns-in_err-set_number g c = λ b s.
    let is : c.from_residual.result ≡ Err c.in_err-set_number.field-0.0 = search rules in
    step-stops (of_system (codes "div") c.args.clock.div)
    (of_system (codes "period") c.args.clock.period ∷ of_system (codes "mul") c.args.clock.mul ∷ []) b c.set_number.new.board c.set_number.new.board
    c.from_residual.result c.in_err-set_number.field-0.0 is (c.in_err-set_number.ensures b s)

pub returns-in_err-set_number-2 : goal.returns-in_err-set_number-2
returns-in_err-set_number-2 g c = λ b s.
    let first = c.in_ok-set_number.ensures b s in
    let is : c.from_residual-in_err-set_number-2.result ≡ Err c.in_err-set_number-2.field-0.0 = search rules in
    then-writes c.set_number-2.new.board c.from_residual-in_err-set_number-2.result _ _
    (step-goes (of_system (codes "div") c.args.clock.div)
    (of_system (codes "period") c.args.clock.period ∷ of_system (codes "mul") c.args.clock.mul ∷ []) b first.0 first.1)
    (step-stops (of_system (codes "period") c.args.clock.period) (of_system (codes "mul") c.args.clock.mul ∷ []) first.0 c.set_number-2.new.board
    c.set_number-2.new.board c.from_residual-in_err-set_number-2.result c.in_err-set_number-2.field-0.0 is (c.in_err-set_number-2.ensures first.0 first.2))

pub returns : goal.returns
returns g c = λ b s.
    let first = c.in_ok-set_number.ensures b s in
    let second = c.in_ok-set_number-2.ensures first.0 first.2 in
    then-writes c.set_number-3.new.board c.set_number-3.result _ _
    (step-goes (of_system (codes "div") c.args.clock.div)
    (of_system (codes "period") c.args.clock.period ∷ of_system (codes "mul") c.args.clock.mul ∷ []) b first.0 first.1
    ∙ step-goes (of_system (codes "period") c.args.clock.period) (of_system (codes "mul") c.args.clock.mul ∷ []) first.0 second.0 second.1
    ∙ one-done (of_system (codes "mul") c.args.clock.mul) second.0)
    (c.set_number-3.ensures second.0 second.2)
