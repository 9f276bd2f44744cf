use Rattle.qo_properties.proofs.FillingLemmas.{fill-nothing}
use Rattle.qo_plug.proofs.standing.fill_at.Goals as goal

pub returns-in-Default : goal.returns-in-Default
returns-in-Default g c = rw c.in-Default.is (fill-nothing c.args.o.birth c.args.at c.args.heap.now)

pub returns-in-Value : goal.returns-in-Value
returns-in-Value g c = rw c.in-Value.is c.set.ensures.now

pub returns-in-Target : goal.returns-in-Target
returns-in-Target g c = rw c.in-Target.is c.point.ensures.now
