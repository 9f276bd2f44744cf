-- The path of the bus.
use Rattle.std.proofs.lemmas.Result.{IfOk-weaker}
use Rattle.std.proofs.Common.{◌∙◌, Option, ℕ, ap}
use Rattle.qo_model.specs.Properties.{target_text}
use Rattle.qo_describe.proofs.devices.bus_text.Goals as goal

pub returns : goal.returns
returns g c = λ b s.
    IfOk-weaker c.target_text.result _ _ (λ text is. is ∙ ap (λ (target : Option ℕ). target_text b target) (c.bus_of-bus.ensures.bus b s))
    (c.target_text.ensures b s)
