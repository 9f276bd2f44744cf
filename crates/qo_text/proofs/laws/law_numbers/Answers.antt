-- By the lemma on numbers.
use Rattle.qo_text.proofs.NumberLemmas.{numbers_are_spelled}
use Rattle.qo_text.proofs.laws.law_numbers.Goals as goal

pub returns : goal.returns
returns c = numbers_are_spelled
