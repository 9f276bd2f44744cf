-- For proofs alone. Whether the periods that the clocks below a clock on the heap would have fit.
use Rattle.std.specs.Prelude.{ℕ, ◌^◌, Bool, false, ◌||◌, ◌==◌, nat_le, if◌then◌else◌}
use Rattle.std.specs.List.{list_any}
use Rattle.qo_model.specs.Depth.{by_depth}
use Rattle.qo_heap.specs.Objects.{Objects}
use Rattle.qo_clocks.specs.Kept.{child_kept}
use Rattle.qo_clocks.specs.Periods.{wide_on}
use Rattle.qo_clocks.specs.Subtree.{fed_on}

-- whether a clock, or one below it, would have a child period that does not fit, where it has a period
abbrev pub over_at : Objects → (ℕ → ℕ → Bool) → ℕ → ℕ → Bool
over_at v f period n = nat_le (2 ^ 64) (wide_on v n period) || f n (wide_on v n period)

-- whether one below a clock would, to a depth, where those that go by the clock have a period; none would where that stays
abbrev pub over_turn : Objects → (ℕ → ℕ → Bool) → ℕ → ℕ → Bool
over_turn v f c period = if child_kept v c == period then false else list_any (over_at v f period) (fed_on v c)

unfoldable pub overflows_on : Objects → ℕ → ℕ → ℕ → Bool
overflows_on v levels c period = by_depth (over_turn v) (λ _ _. false) levels c period
