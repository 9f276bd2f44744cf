use Rattle.qo_machine.proofs.TreeLemmas.{sound_in_runs}
use Rattle.qo_machine.proofs.laws.law_sound.Goals as goal

pub returns : goal.returns
returns c = sound_in_runs
