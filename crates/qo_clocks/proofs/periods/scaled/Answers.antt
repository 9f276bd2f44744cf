use Rattle.std.proofs.Common.{◌∙◌, ◌-◌, ◌^◌, ℕ, Option, unwrap_or, ap}
use Rattle.qo_clocks.specs.Periods.{wide_on}
use Rattle.qo_clocks.proofs.PeriodLemmas.{fitting-cut}
use Rattle.qo_clocks.proofs.periods.scaled.Goals as goal

pub returns : goal.returns
returns g c =
    c.unwrap_or.ensures
    ∙ ap (λ (o : Option ℕ). unwrap_or o (2 ^ 64 - 1)) c.child_period.ensures
    ∙ fitting-cut (wide_on c.args.heap.now c.args.c.birth c.args.period)
