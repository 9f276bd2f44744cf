use Rattle.std.proofs.Common.{◌∙◌, sym}
use Rattle.qo_clocks.proofs.PeriodLemmas.{device-none, device-some}
use Rattle.qo_clocks.proofs.periods.device_period.Goals as goal

pub returns-in-Some-clause-period : goal.returns-in-Some-clause-period
returns-in-Some-clause-period g c = λ b s clocked.
    c.period.ensures.period b s clocked ∙ device-some b c.args.heap.now s c.args.dev.birth c.in-Some.clock (sym c.in-Some.ensures.clock)

pub returns-in-None-clause-period : goal.returns-in-None-clause-period
returns-in-None-clause-period g c = λ b s clocked. device-none b c.args.heap.now s c.args.dev.birth (sym c.in-None.ensures.clock)
