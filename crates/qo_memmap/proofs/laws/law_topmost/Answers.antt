-- The law is the lemma.
use Rattle.qo_memmap.proofs.TopLemmas.{topmost}
use Rattle.qo_memmap.proofs.laws.law_topmost.Goals as goal

pub returns : goal.returns
returns c = topmost
