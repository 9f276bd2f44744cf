-- For a law alone. What a number that is written at a clock's path comes to (QEMU's QAPI, `qom-set`; docs/devel/clocks.rst).
use Rattle.std.specs.Prelude.{◌≡◌, ℕ, ◌<◌, ◌^◌, List, codes, Some}
use Rattle.qo_values.specs.declared.kinds.TypeId.TheVariants.{Clock}
use Rattle.qo_model.specs.Board.{Board, kind_of}
use Rattle.qo_model.specs.ClockChanges.{clock_scaled, clock_set}
use Rattle.qo_model.specs.Clocks.{div_of, mul_of}
use Rattle.qo_model.specs.Paths.{canonical}
use Rattle.qo_save.specs.Rebuilding.{set_number}
use Rattle.qo_good.specs.GoodBoards.{IsWhole}

-- at the canonical path of a clock a number as wide as its property goes to the clock
pub record NumbersTakenLaw : Type 0 where
  pub div : (b : Board) (c : ℕ) (path : List ℕ) (n : ℕ) → IsWhole b → canonical b c ≡ Some path → kind_of b c ≡ Some Clock → n < 2 ^ 32
      → set_number path (codes "div") n b ≡ clock_scaled b c (mul_of b c) n
  pub mul : (b : Board) (c : ℕ) (path : List ℕ) (n : ℕ) → IsWhole b → canonical b c ≡ Some path → kind_of b c ≡ Some Clock → n < 2 ^ 32
      → set_number path (codes "mul") n b ≡ clock_scaled b c n (div_of b c)
  pub period : (b : Board) (c : ℕ) (path : List ℕ) (n : ℕ) → IsWhole b → canonical b c ≡ Some path → kind_of b c ≡ Some Clock → n < 2 ^ 64
      → set_number path (codes "period") n b ≡ clock_set b c n
