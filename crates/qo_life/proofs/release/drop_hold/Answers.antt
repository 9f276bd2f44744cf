use Rattle.qo_model.specs.Release.{after, finalize}
use Rattle.qo_object.specs.BoardObject.{birth_of}
use Rattle.qo_life.proofs.PaidLemmas.{hold-within}
use Rattle.qo_life.proofs.TreeLemmas.{goes-names}
use Rattle.qo_life.proofs.release.drop_hold.Goals as goal

pub returns-clause-names : goal.returns-clause-names
returns-clause-names g c =
    goes-names (λ b. after finalize b (birth_of c.args.held)) c.args.heap.now c.end_unheld.new.heap c.end_unheld.ensures.goes

pub returns-clause-work : goal.returns-clause-work
returns-clause-work g c = hold-within c.args.heap.now c.end_unheld.new.heap c.args.steps.now c.end_unheld.new.steps c.end_unheld.ensures.work
