use Rattle.std.proofs.Common.{◌≡◌, rules}
use Rattle.qo_clocks.specs.Reads.{clock_on}
use Rattle.qo_clocks.proofs.ReadLemmas.{clock-live}
use Rattle.qo_clocks.proofs.reads.clock_of.Goals as goal

pub returns-clause-live : goal.returns-clause-live
returns-clause-live g c =
    let same : c.child_in.result ≡ clock_on c.args.heap.now c.args.dev.birth = search rules in
    rw same (clock-live c.args.heap.now c.reveal_invariant.ensures c.args.dev.birth)
