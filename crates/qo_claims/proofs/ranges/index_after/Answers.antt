use Rattle.std.proofs.Common.{nat_lt, Bool}
use Rattle.qo_values.specs.declared.ranges.Range.{Range}
use Rattle.qo_claims.proofs.DisjointRanges.{position-or, position_or_len-le}
use Rattle.qo_claims.proofs.ranges.index_after.Goals as goal

pub returns-clause-index : goal.returns-clause-index
returns-clause-index c =
    let test : Range → Bool = λ held. nat_lt c.args.at held.at in
    rw (c.unwrap_or.ensures, c.first_after.ensures) (position-or test c.args.ranges.now)

pub returns-clause-within : goal.returns-clause-within
returns-clause-within c =
    let test : Range → Bool = λ held. nat_lt c.args.at held.at in
    rw (c.unwrap_or.ensures, c.first_after.ensures, position-or test c.args.ranges.now) (position_or_len-le test c.args.ranges.now)
