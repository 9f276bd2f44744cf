use Rattle.qo_framing.proofs.Steps.{cuts_anywhere}
use Rattle.qo_framing.proofs.laws.law_cut.Goals as goal

pub returns : goal.returns
returns c = cuts_anywhere
