use Rattle.std.proofs.Common.{◌≡◌, rules}
use Rattle.qo_clocks.specs.Reads.{source_on}
use Rattle.qo_clocks.proofs.ReadLemmas.{source-live}
use Rattle.qo_clocks.proofs.reads.source_of.Goals as goal

pub returns-clause-live : goal.returns-clause-live
returns-clause-live g c =
    let same : c.weak_target.result ≡ source_on c.args.heap.now c.args.c.birth = search rules in
    rw same (source-live c.args.heap.now c.reveal_invariant.ensures c.args.c.birth)
