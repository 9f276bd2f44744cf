-- For proofs alone. The clocks that go by a clock on the heap.
use Rattle.std.specs.Prelude.{◌≡◌, ◌<◌, ◌≤◌, ℕ, Bool, false, ◌&&◌, ◌==◌, nat_lt, List, ◌∷◌, filter}
use Rattle.std.specs.Option.{option_map_or}
use Rattle.qo_slots.specs.declared.keys.Key.{Key}
use Rattle.qo_heap.specs.Rows.{IsLive, births}
use Rattle.qo_heap.specs.Objects.{Objects}
use Rattle.qo_clocks.specs.Reads.{source_on}

-- whether a clock goes by a clock
abbrev pub goes_by : Objects → ℕ → ℕ → Bool
goes_by v c n = option_map_or (λ (s : Key). s.birth == c) (source_on v n) false

-- the clocks that do, in the order of births; and those of them with births above a number
abbrev pub fed_on : Objects → ℕ → List ℕ
fed_on v c = filter (goes_by v c) (births v.rows)

abbrev pub fed_above : Objects → ℕ → ℕ → List ℕ
fed_above v c above = filter (λ (n : ℕ). nat_lt above n && goes_by v c n) (births v.rows)

-- a clock is the first of these, and the others are those with births above its own
pub record IsNextFed (v : Objects) (c above : ℕ) (n : Key) : Type 0 where
  pub live : IsLive v.rows n
  pub higher : above < n.birth
  pub born : n.birth ≤ v.born
  pub fed : fed_above v c above ≡ n.birth ∷ fed_above v c n.birth
