-- The value of the property is read.
use Rattle.std.proofs.Common.{◌≡◌, None, ap, ◌∙◌, rules}
use Rattle.std.specs.Option.{option_and_then}
use Rattle.qo_model.specs.Devices.{number_in}
use Rattle.qo_buses.proofs.slots.number_at.Goals as goal

pub returns-in_err-val : goal.returns-in_err-val
returns-in_err-val g c = λ b s.
    let none : c.from_residual.result ≡ None = search rules in
    rw none (ap (option_and_then number_in) (c.in_err-val.ensures b s))

pub returns : goal.returns
returns g c = λ b s. c.number_in.ensures ∙ ap (option_and_then number_in) (c.in_ok-val.ensures b s)
