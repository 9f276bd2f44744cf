use Rattle.qo_framing.proofs.Ends.{ends_are_first}
use Rattle.qo_framing.proofs.laws.law_ends.Goals as goal

pub returns : goal.returns
returns c = ends_are_first
