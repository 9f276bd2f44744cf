-- By std's clause.
use Rattle.qo_words.proofs.WordLemmas.{after_strips}
use Rattle.qo_words.proofs.words.after_front.Goals as goal

pub returns : goal.returns
returns c = after_strips c.args.front.now c.args.text.now c.strip_prefix.result c.strip_prefix.ensures.cases
