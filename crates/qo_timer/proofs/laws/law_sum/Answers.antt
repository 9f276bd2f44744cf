-- The law is the lemma.
use Rattle.qo_timer.proofs.Sums.{sum-after}
use Rattle.qo_timer.proofs.laws.law_sum.Goals as goal

pub returns : goal.returns
returns c = sum-after
