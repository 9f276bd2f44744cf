use Rattle.qo_clocks.proofs.KeptBoards.{clocked-read}
use Rattle.qo_clocks.proofs.periods.period.Goals as goal

pub returns-clause-period : goal.returns-clause-period
returns-clause-period g c = λ b s clocked. (clocked-read b c.args.heap.now s clocked c.args.c.birth c.side.result c.side.ensures.side).0
