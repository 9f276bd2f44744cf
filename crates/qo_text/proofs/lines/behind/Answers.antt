-- By std's clause.
use Rattle.qo_text.proofs.WordLemmas.{behind-strips}
use Rattle.qo_text.proofs.lines.behind.Goals as goal

pub returns : goal.returns
returns c = behind-strips c.args.word.now c.args.text.now c.strip_prefix.result c.strip_prefix.ensures.cases
