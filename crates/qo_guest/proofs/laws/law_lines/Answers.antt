use Rattle.qo_guest.proofs.LineSpellings.{lines_are_spelled}
use Rattle.qo_guest.proofs.laws.law_lines.Goals as goal

pub returns : goal.returns
returns c = lines_are_spelled
