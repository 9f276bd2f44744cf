-- Where `/objects` is not there, nothing in it is.
use Rattle.qo_realize.proofs.UserLemmas.{none-used}
use Rattle.qo_realize.proofs.users.is_used.Goals as goal

pub returns-in_default-clause-used : goal.returns-in_default-clause-used
returns-in_default-clause-used g c = λ b s told. none-used b c.args.heap.now c.args.id.now s c.in_default.ensures.none
