-- The system clock, or what is told where there is none.
use Rattle.std.proofs.Common.{◌∙◌, ℕ, [], ◌∷◌, ap}
use Rattle.std.proofs.lemmas.Result.{IfOk-weaker}
use Rattle.qo_model.specs.Clocks.{div_of, mul_of, own_period}
use Rattle.qo_save.specs.Description.{clock_names, named, whole}
use Rattle.qo_describe.proofs.ItemLemmas.{clock-gone}
use Rattle.qo_describe.proofs.clocks.clock_value.Goals as goal

pub returns-in-Some : goal.returns-in-Some
returns-in-Some g c = λ b s.
    IfOk-weaker c.clock_numbers.result _ _
    (λ v is. is ∙ ap (λ (n : ℕ). named clock_names (whole (div_of b n) ∷ whole (mul_of b n) ∷ whole (own_period b n) ∷ [])) c.in-Some.ensures.born)
    (c.clock_numbers.ensures b s)

pub returns-in-None : goal.returns-in-None
returns-in-None g c = λ b s.
    IfOk-weaker c.numbers_value.result _ _ (λ v is. is ∙ clock-gone b c.args.heap.now s c.in-None.ensures.none) c.numbers_value.ensures
