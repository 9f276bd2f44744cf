-- The law is the lemma.
use Rattle.qo_memmap.proofs.ShowLemmas.{shows-step}
use Rattle.qo_memmap.proofs.laws.law_regions.Goals as goal

pub returns : goal.returns
returns c = λ areas lower r a within. shows-step areas r a lower within
