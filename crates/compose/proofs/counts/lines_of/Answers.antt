-- The parts between the LFs.
use Rattle.std.proofs.Common.{rules, tests}
use Rattle.std.proofs.lemmas.Iterator.Consumers.{map_from_collect}
use Rattle.std.proofs.lemmas.Iterator.Splits.{YieldsList-from_slice_split}
use Rattle.compose.proofs.counts.lines_of.Goals as goal

pub returns : goal.returns
returns c =
    let split = c.split.ensures in
    map_from_collect _ c.collect.ensures.ran
    (YieldsList-from_slice_split _ _ c.args.transcript.now split.rest split.done split.closure (λ x r q k. search (rules, tests)))
