use Rattle.std.proofs.Common.{◌∙◌}
use Rattle.qo_clocks.proofs.KeptLemmas.{keep-as}
use Rattle.qo_clocks.proofs.kept.keep.Goals as goal

pub returns : goal.returns
returns g c =
    c.set_side.ensures.now
    ∙ keep-as c.args.heap.now c.reveal_invariant.ensures c.args.c.birth c.args.period c.args.child c.side-side.result c.side-side.ensures.side
