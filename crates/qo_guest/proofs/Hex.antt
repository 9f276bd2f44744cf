-- Sixteen hexadecimal digits fit 64 bits.
use Rattle.std.proofs.Common.{ℕ, ◌<◌, ◌≤◌, ◌^◌, IfSome, Option, Some, None, arith}
use Rattle.std.proofs.Math.Nat.{pow-le-pow_right}

-- less than sixteen digits leave room for one more
pub room_for_digit : (i : ℕ) → i < 16 → 16 ^ i ≤ 1152921504606846976
room_for_digit i few = pow-le-pow_right (omega arith) (let most : i ≤ 15 = omega arith in most)

-- a bound by fewer digits is one by more
pub within_more : (read : Option ℕ) (few most : ℕ) → few ≤ most → IfSome read (λ n. n < 16 ^ few) → IfSome read (λ n. n < 16 ^ most)
within_more None few most le within = tt
within_more (Some n) few most le within =
    let powers : 16 ^ few ≤ 16 ^ most = pow-le-pow_right (omega arith) le in omega (arith, within, powers)
