use Rattle.std.proofs.Common.{◌∙◌}
use Rattle.qo_reset.proofs.WalkLemmas.{count-all}
use Rattle.qo_reset.proofs.counts.recount.Goals as goal

pub returns : goal.returns
returns g c = c.loop-hold.invariant ∙ count-all c.args.heap.now c.args.holds.now c.args.o.birth c.loop-hold.hold-index c.loop-hold-test.false
