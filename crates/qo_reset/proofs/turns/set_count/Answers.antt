use Rattle.std.proofs.Common.{◌∙◌}
use Rattle.qo_reset.specs.Turns.{counted}
use Rattle.qo_reset.proofs.CountLemmas.{sided-as}
use Rattle.qo_reset.proofs.turns.set_count.Goals as goal

pub returns-clause-now : goal.returns-clause-now
returns-clause-now g c =
    c.set_side.ensures.now
    ∙ sided-as c.args.heap.now c.reveal_invariant.ensures c.args.o.birth (counted c.args.count) c.side-side.result c.side-side.ensures.side
