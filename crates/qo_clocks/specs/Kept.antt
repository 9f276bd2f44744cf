-- For proofs alone. The periods that are kept of clocks.
use Rattle.std.specs.Prelude.{◌≡◌, ℕ, false, List, None, Some}
use Rattle.std.specs.Option.{option_map_or, option_to_list}
use Rattle.qo_model.specs.Board.{Board}
use Rattle.qo_model.specs.Clocks.{ClocksFit, source_of}
use Rattle.qo_model.specs.Depth.{Leads}
use Rattle.qo_object.specs.Content.{Content}
use Rattle.qo_heap.specs.Objects.{Objects, content_of, with_edit}
use Rattle.qo_clocks.specs.Periods.{scaled_on}
use Rattle.qo_clocks.specs.Reads.{own_on, source_on}
use Rattle.qo_clocks.specs.Subtree.{goes_by}

-- the period that is kept of a clock for those that go by it; 0 where it is not there
abbrev pub child_kept : Objects → ℕ → ℕ
child_kept v n = option_map_or (λ (c : Content). c.side.child) (content_of v n) 0

-- the period of a clock by what is kept: its own, or its source's for those that go by it
abbrev pub kept_turn : Objects → ℕ → ℕ
kept_turn v n = elim (source_on v n) [ None ↦ own_on v n | Some s ↦ child_kept v s.birth ]

-- what is kept of an object as a clock: this period, and for those that go by it this period by its mul and div
pub record IsClocked (v : Objects) (n : ℕ) (c : Content) : Type 0 where
  pub period : c.side.period ≡ kept_turn v n
  pub child : c.side.child ≡ scaled_on v n c.side.period

-- of each object that is there; of one without such slots both are 0
abbrev pub PeriodsKept : Objects → Type 0
PeriodsKept v = (n : ℕ) (c : Content) → content_of v n ≡ Some c → IsClocked v n c

-- no clock goes by a clock
abbrev pub FeedsNone : Objects → ℕ → Type 0
FeedsNone v c = (n : ℕ) → goes_by v c n ≡ false

-- what a clock goes by, if it goes by another
abbrev pub sources : Board → ℕ → List ℕ
sources b c = option_to_list (source_of b c)

-- a heap that shows a board keeps the periods of its clocks: they fit, no clock goes by itself, in however many steps, and what
-- is kept is right
pub record Clocked (b : Board) (v : Objects) : Type 0 where
  pub fits : ClocksFit b
  pub none_round : (c : ℕ) → ¬ (Leads (sources b) c c)
  pub kept : PeriodsKept v

-- other periods are kept of an object; and of a clock those by what is kept of its source
abbrev pub with_periods : ℕ → ℕ → Content → Content
with_periods period child c = record c { side = record c.side { period = period; child = child } }

abbrev pub kept_afresh : ℕ → Objects → Objects
kept_afresh n v = with_edit n (with_periods (kept_turn v n) (scaled_on v n (kept_turn v n))) v
