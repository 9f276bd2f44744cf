-- One bit is set in just the powers of two.
use Rattle.std.proofs.Common.{◌≡◌, ℕ, suc, zero, ◌/◌, ◌%◌, ◌^◌, ◌<◌, ◌≤◌, true, refl, arith, ⊎_elim}
use Rattle.std.specs.Prelude.{count_ones}
use lib.Count.{ones_step}
use Rattle.std.proofs.Math.Nat.{pow-suc}
use Rattle.std.proofs.lemmas.Nat.{zero_from_ones, ones_le_self}
use Rattle.std.proofs.lemmas.Bool.{cases_lt}
use Rattle.std.proofs.lemmas.Bool.Decides.{nat_tests}
use Rattle.qo_values.specs.Rings.{is_ring_size}
use Rattle.qo_values.specs.declared.limits.TheConstants.{RING_SIZE_MAX}
use Rattle.qo_chardev.specs.Laws.{SizesArePowers}

power_of_ones : (d n : ℕ) → n ≤ d → count_ones n ≡ 1 → (k : ℕ) × (n ≡ 2 ^ k)
power_of_ones zero n within one = let few = ones_le_self n in absurd (omega arith)
power_of_ones (suc d) n within one = ⊎_elim (even (power_of_ones d (n / 2))) odd (cases_lt (n % 2) 1)
  where
    even : (n / 2 ≤ d → count_ones (n / 2) ≡ 1 → (k : ℕ) × (n / 2 ≡ 2 ^ k)) → n % 2 < 1 → (k : ℕ) × (n ≡ 2 ^ k)
    even half_is low =
        let step = ones_step n in
        let few = ones_le_self n in
        let half = half_is (omega arith) (omega arith) in
        let power = pow-suc 2 half.0 in
        (suc half.0, omega (arith, half.1))

    odd : 1 ≤ n % 2 → (k : ℕ) × (n ≡ 2 ^ k)
    odd high =
        let step = ones_step n in
        let none = zero_from_ones (n / 2) (omega arith) in
        (0, omega arith)

one_bit : count_ones 1 ≡ 1
unfolding lib.Count.ones
one_bit = refl

ones_of_power : (k : ℕ) → count_ones (2 ^ k) ≡ 1
ones_of_power zero = one_bit
ones_of_power (suc k) =
    let power = pow-suc 2 k in
    let half : 2 ^ suc k / 2 ≡ 2 ^ k = omega arith in
    let step = rw half at (ones_step (2 ^ suc k)) in
    let front = ones_of_power k in
    omega arith

pub sizes_are_powers : SizesArePowers
sizes_are_powers size = (λ e. forth e, λ p. back p.0 p.1 p.2)
  where
    forth : is_ring_size size ≡ true → (k : ℕ) × (size ≡ 2 ^ k) × (size ≤ RING_SIZE_MAX)
    forth e =
        let one : count_ones size ≡ 1 = grind (arith, nat_tests) in
        let few : size ≤ RING_SIZE_MAX = grind (arith, nat_tests) in
        let power = power_of_ones size size (omega arith) one in
        (power.0, power.1, few)

    back : (k : ℕ) → size ≡ 2 ^ k → size ≤ RING_SIZE_MAX → is_ring_size size ≡ true
    back k e few =
        let one : count_ones size ≡ 1 = rw e (ones_of_power k) in
        grind (arith, nat_tests)
