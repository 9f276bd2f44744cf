use Rattle.qo_machine.proofs.LawLemmas.{lanes_are_apart}
use Rattle.qo_machine.proofs.laws.law_lanes.Goals as goal

pub returns : goal.returns
returns c = lanes_are_apart
