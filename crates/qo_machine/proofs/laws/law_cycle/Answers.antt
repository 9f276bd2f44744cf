use Rattle.qo_machine.proofs.TreeLemmas.{held_in_runs}
use Rattle.qo_machine.proofs.laws.law_cycle.Goals as goal

pub returns : goal.returns
returns c = held_in_runs
