-- The number, or the other.
use Rattle.std.proofs.Common.{◌∙◌, ℕ, Option, ap, unwrap_or}
use Rattle.qo_describe.proofs.clocks.number_or.Goals as goal

pub returns : goal.returns
returns g c = λ b s. c.unwrap_or.ensures ∙ ap (λ (o : Option ℕ). unwrap_or o c.args.other) (c.number_at.ensures b s)
