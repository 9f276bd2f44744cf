-- The object at the path tells whether a clock is written.
use Rattle.std.proofs.Common.{ℕ, Bool, false, ap, ◌∙◌, Result, Ok, Err}
use Rattle.qo_values.specs.declared.codes.Code.{Code}
use Rattle.qo_properties.specs.Writes.{is_of_clock}
use Rattle.qo_properties.proofs.writing.writes.set.Goals as goal

pub returns-clause-clocks : goal.returns-clause-clocks
returns-clause-clocks g c = λ b s is.
    c.set_property.ensures.clocks b s
    (ap (λ (r : Result ℕ Code). elim r as (λ _. Bool) [ Ok n ↦ is_of_clock b n c.args.name.now | Err code ↦ false ]) (c.in_ok-o.ensures.object b s) ∙ is)
