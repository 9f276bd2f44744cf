-- For proofs alone. How many holds there are on each object and above it, as it is kept.
use Rattle.std.specs.Prelude.{◌≡◌, ◌≤◌, ℕ, Bool, false, true, List, nat_lt, Some}
use Rattle.std.specs.Option.{option_map_or}
use Rattle.qo_values.specs.declared.limits.TheConstants.{HOLD_COUNT_MAX}
use Rattle.qo_object.specs.Content.{Content}
use Rattle.qo_heap.specs.Acts.{counted_in}
use Rattle.qo_heap.specs.Objects.{Objects, content_of}
use Rattle.qo_reset.specs.Phases.{count_on, is_under}

-- what is kept of an object is how many holds there are on it and above it, and it has no mark
pub record IsCounted (v : Objects) (holds : List ℕ) (n : ℕ) (c : Content) : Type 0 where
  pub count : c.side.count ≡ count_on v holds n
  pub unmarked : c.side.marks ≡ 0

-- of each object that is there
abbrev pub CountsKept : List ℕ → Objects → Type 0
CountsKept holds v = (n : ℕ) (c : Content) → content_of v n ≡ Some c → IsCounted v holds n c

-- of each that is one or below it; and of each other one, where a device is being plugged
abbrev pub CountedBelow : ℕ → List ℕ → Objects → Type 0
CountedBelow root holds v = (n : ℕ) (c : Content) → content_of v n ≡ Some c → is_under v n root ≡ true → IsCounted v holds n c

abbrev pub CountsKeptBut : ℕ → List ℕ → Objects → Type 0
CountsKeptBut device holds v = (n : ℕ) (c : Content) → content_of v n ≡ Some c → is_under v n device ≡ false → IsCounted v holds n c

-- what is kept stays of each object that is neither one nor below it
abbrev pub KeepsOthers : ℕ → Objects → Objects → Type 0
KeepsOthers root v w = (n : ℕ) → is_under v n root ≡ false → counted_in w n ≡ counted_in v n

-- a hold on an object may come: on it and each below it there may be one more
abbrev pub HasRoom : ℕ → List ℕ → Objects → Type 0
HasRoom root holds v = (n : ℕ) → is_under v n root ≡ true → count_on v holds n ≤ HOLD_COUNT_MAX

-- the count that is kept of an object; whether it is more than it may be before a hold more
abbrev pub kept_count : Objects → ℕ → ℕ
kept_count v n = option_map_or (λ (c : Content). c.side.count) (content_of v n) 0

abbrev pub is_full : Objects → ℕ → Bool
is_full v n = nat_lt HOLD_COUNT_MAX (kept_count v n)
