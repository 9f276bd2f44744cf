use Rattle.qo_commands.proofs.LineLemmas.{lines-cut}
use Rattle.qo_commands.proofs.laws.law_lines_cut.Goals as goal

pub returns : goal.returns
returns c = lines-cut
