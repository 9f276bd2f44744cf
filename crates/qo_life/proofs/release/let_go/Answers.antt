use Rattle.qo_model.specs.Release.{let_go}
use Rattle.qo_life.proofs.TreeLemmas.{goes-names}
use Rattle.qo_life.proofs.release.let_go.Goals as goal

pub returns-clause-names : goal.returns-clause-names
returns-clause-names g c =
    goes-names (λ b. let_go b c.args.owner.birth c.args.at) c.args.heap.now c.let_go_at.new.heap c.let_go_at.ensures.goes
