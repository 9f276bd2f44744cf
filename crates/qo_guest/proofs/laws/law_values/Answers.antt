use Rattle.qo_guest.proofs.HexSpellings.{values_are_read_back}
use Rattle.qo_guest.proofs.laws.law_values.Goals as goal

pub returns : goal.returns
returns c = values_are_read_back
