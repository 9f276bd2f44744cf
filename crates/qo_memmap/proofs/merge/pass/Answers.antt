use Rattle.std.proofs.Common.{◌≤◌, ◌-◌, arith}
use Rattle.qo_memmap.proofs.MergeLemmas.{pass-first-at}
use Rattle.qo_memmap.proofs.merge.pass.Goals as goal

pub returns-in-Some : goal.returns-in-Some
returns-in-Some c =
    let passed : c.in-Some.layer.now.span.size ≤ c.args.until - c.in-Some.layer.now.span.at = omega (arith, c.saturating_sub.ensures) in
    pass-first-at c.args.left.now c.in-Some.layer.now c.args.until c.in-Some.ensures.item.0 c.in-Some.ensures.item.1 passed
