-- When the segments of a board's timers are sound (docs/devel/clocks.rst, "Clock callbacks"; the timer is a device of the profile).
use Rattle.std.specs.Prelude.{◌≡◌, ℕ, ◌*◌, ◌≤◌, Some, ⊤}
use Rattle.std.specs.List.{AllByRecursion}
use Rattle.qo_values.specs.Registers.{Registers, TimerRegisters, timer}
use Rattle.qo_values.specs.Timer.{is_open}
use Rattle.qo_values.specs.declared.limits.TheConstants.{UNITS_PER_NS}
use Rattle.qo_model.specs.Board.{Board, Record}

-- those of a timer
pub record SegmentsFit (t : TimerRegisters) : Type 0 where
  -- one is open exactly where the timer is enabled, and it began at the last moment at which one began or ended
  pub running : is_open t ≡ t.enabled
  pub began : (from : ℕ) → t.began ≡ Some from → from ≡ t.last
  -- the ended ones have at most UNITS_PER_NS ticks for each ns up to that moment
  pub ticks : t.done ≤ UNITS_PER_NS * t.last

-- where registers are those of a timer, its segments are sound
abbrev pub IsSegmented : Registers → Type 0
IsSegmented (timer t) = SegmentsFit t
IsSegmented r = ⊤

-- those of each timer are
abbrev pub SoundSegments : Board → Type 0
SoundSegments b = AllByRecursion (λ (r : Record). IsSegmented r.registers) b.records
