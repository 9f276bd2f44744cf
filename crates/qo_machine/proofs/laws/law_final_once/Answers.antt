use Rattle.qo_machine.proofs.NoteLemmas.{final_once_in_runs}
use Rattle.qo_machine.proofs.laws.law_final_once.Goals as goal

pub returns : goal.returns
returns c = final_once_in_runs
