use Rattle.qo_machine.proofs.HistoryLemmas.{later_in_runs}
use Rattle.qo_machine.proofs.laws.law_later.Goals as goal

pub returns : goal.returns
returns c = later_in_runs
