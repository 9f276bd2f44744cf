use Rattle.qo_model.proofs.CycleLemmas.{cycle_lem}
use Rattle.qo_model.proofs.laws.law_cycle.Goals as goal

pub returns : goal.returns
returns c = cycle_lem
