use Rattle.std.proofs.Common.{length}
use Rattle.qo_reset.proofs.WalkLemmas.{gone-under}
use Rattle.qo_reset.proofs.counts.is_under.Goals as goal

pub returns-in-None : goal.returns-in-None
returns-in-None g c = gone-under c.args.heap.now c.args.hold.birth c.args.birth (length c.args.heap.now.rows) c.in-None.ensures.none
