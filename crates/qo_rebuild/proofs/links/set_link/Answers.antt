-- The call is the step.
use Rattle.std.proofs.Common.{◌≡◌, Err, rules}
use Rattle.qo_properties.specs.declared.refusals.Refusal.TheVariants.{Memory}
use Rattle.qo_rebuild.proofs.links.set_link.Goals as goal

pub returns-in_err-value : goal.returns-in_err-value
returns-in_err-value g c = λ b s.
    let is : c.from_residual.result ≡ Err Memory = search rules in
    rw is tt
