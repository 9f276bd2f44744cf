-- A lower power is no greater.
use Rattle.std.proofs.Common.{◌≤◌, ◌^◌, arith}
use Rattle.std.proofs.Math.Pow.{pow_mono}
use Rattle.qo_layout.proofs.regions.slot_size.Goals as goal

pub returns-clause-most : goal.returns-clause-most
returns-clause-most c =
    let low : c.saturating_sub.result ≤ 44 = omega (arith, c.saturating_sub.ensures) in
    let most : 2 ^ c.saturating_sub.result ≤ 2 ^ 44 = pow_mono low in
    omega (arith, most)
