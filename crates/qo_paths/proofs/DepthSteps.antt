-- Recursion to a depth, turn by turn: `size + 1` turns, of which i are done.
use Rattle.std.proofs.Common.{◌≡◌, ap, ℕ, suc, ◌+◌, ◌-◌, ◌<◌, ◌≤◌, arith}
use Rattle.qo_model.specs.Depth.{by_depth}

module _ {A : Type 0} (turn : (ℕ → A) → ℕ → A) (base : ℕ → A) where
  -- what is left to do after i turns
  abbrev pub left_at : ℕ → ℕ → ℕ → A
  left_at size i n = by_depth turn base (size + 1 - i) n

  pub depth-all : (size n : ℕ) → left_at size 0 n ≡ by_depth turn base (suc size) n
  depth-all size n = let same : size + 1 - 0 ≡ suc size = omega arith in ap (λ (k : ℕ). by_depth turn base k n) same

  pub depth-turn : (size i n : ℕ) → i < size + 1 → left_at size i n ≡ turn (λ (m : ℕ). left_at size (i + 1) m) n
  depth-turn size i n below = let same : size + 1 - i ≡ suc (size + 1 - (i + 1)) = omega arith in ap (λ (k : ℕ). by_depth turn base k n) same

  pub depth-none : (size i n : ℕ) → size + 1 ≤ i → left_at size i n ≡ base n
  depth-none size i n past = let same : size + 1 - i ≡ 0 = omega arith in ap (λ (k : ℕ). by_depth turn base k n) same
