-- The numbers are those of the clock.
use Rattle.std.proofs.Common.{◌∙◌, ℕ, [], ◌∷◌, ap}
use Rattle.std.proofs.lemmas.Result.{IfOk-weaker}
use Rattle.qo_model.specs.Clocks.{div_of, mul_of}
use Rattle.qo_save.specs.Description.{clock_names, named, whole}
use Rattle.qo_describe.proofs.clocks.clock_numbers.Goals as goal

pub returns : goal.returns
returns g c = λ b s.
    IfOk-weaker c.numbers_value.result _ _
    (λ v is. is
    ∙ ap (λ (div : ℕ). named clock_names (whole div ∷ whole c.mul-mul.result ∷ whole c.own_period-period.result ∷ [])) (c.div-div.ensures b s)
    ∙ ap (λ (mul : ℕ). named clock_names (whole (div_of b c.args.clock.birth) ∷ whole mul ∷ whole c.own_period-period.result ∷ [])) (c.mul-mul.ensures b s)
    ∙ ap (λ (period : ℕ). named clock_names (whole (div_of b c.args.clock.birth) ∷ whole (mul_of b c.args.clock.birth) ∷ whole period ∷ []))
    (c.own_period-period.ensures b s))
    c.numbers_value.ensures
