use Rattle.qo_framing.proofs.Cuts.{cuts_by_parts}
use Rattle.qo_framing.proofs.laws.law_parts.Goals as goal

pub returns : goal.returns
returns c = cuts_by_parts
