use Rattle.qo_machine.proofs.HoldLemmas.{phases_in_runs}
use Rattle.qo_machine.proofs.laws.law_phases.Goals as goal

pub returns : goal.returns
returns c = phases_in_runs
