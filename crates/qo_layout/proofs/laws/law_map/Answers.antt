-- The law is the lemma.
use Rattle.qo_layout.proofs.AddedLemmas.{map_lem}
use Rattle.qo_layout.proofs.laws.law_map.Goals as goal

pub returns : goal.returns
returns c = map_lem
