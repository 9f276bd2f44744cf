use Rattle.qo_machine.proofs.AnsweringLemmas.{answered_runs}
use Rattle.qo_machine.proofs.laws.law_answers.Goals as goal

pub returns : goal.returns
returns c = answered_runs
