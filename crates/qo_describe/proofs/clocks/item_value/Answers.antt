-- The factors and the path are those of the clock.
use Rattle.std.proofs.Common.{◌∙◌, ℕ, List, [], ◌∷◌, ap}
use Rattle.std.proofs.lemmas.Result.{IfOk-weaker}
use Rattle.serde_json.specs.Data.{string}
use Rattle.qo_model.specs.Clocks.{div_of, mul_of}
use Rattle.qo_save.specs.Description.{clock_item_names, named, whole}
use Rattle.qo_describe.proofs.clocks.item_value.Goals as goal

pub returns : goal.returns
returns g c = λ b s.
    IfOk-weaker c.factors_value.result _ _
    (λ v is. is
    ∙ ap (λ (div : ℕ). named clock_item_names (whole div ∷ whole c.mul-mul.result ∷ string c.as_str.result.now ∷ [])) (c.div-div.ensures b s)
    ∙ ap (λ (mul : ℕ). named clock_item_names (whole (div_of b c.args.clock.birth) ∷ whole mul ∷ string c.as_str.result.now ∷ [])) (c.mul-mul.ensures b s)
    ∙ ap (λ (path : List ℕ). named clock_item_names (whole (div_of b c.args.clock.birth) ∷ whole (mul_of b c.args.clock.birth) ∷ string path ∷ []))
    (c.as_str.ensures.value ∙ c.in_ok-path.ensures b s))
    c.factors_value.ensures
