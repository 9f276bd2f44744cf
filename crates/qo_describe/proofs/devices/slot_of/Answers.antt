-- The slot, or 0.
use Rattle.std.proofs.Common.{◌∙◌, ℕ, Option, ap, unwrap_or}
use Rattle.qo_describe.proofs.devices.slot_of.Goals as goal

pub returns : goal.returns
returns g c = λ b s. c.unwrap_or.ensures ∙ ap (λ (o : Option ℕ). unwrap_or o 0) (c.bus_slot_of.ensures b s)
