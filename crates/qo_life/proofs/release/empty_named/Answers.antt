use Rattle.qo_life.proofs.ReleaseLemmas.{unnamed-stays}
use Rattle.qo_life.proofs.release.empty_named.Goals as goal

pub returns-else-names-clause-now : goal.returns-else-names-clause-now
returns-else-names-clause-now g c =
    unnamed-stays c.args.heap.now c.reveal_invariant.ensures c.args.o.birth c.args.at c.args.names c.if-names.false c.requires.names
