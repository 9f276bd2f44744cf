-- The law is the lemma.
use Rattle.qo_irq.proofs.Levels.{law-gates}
use Rattle.qo_irq.proofs.laws.law_gates.Goals as goal

pub returns : goal.returns
returns c = law-gates
