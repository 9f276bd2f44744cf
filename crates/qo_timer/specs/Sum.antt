-- For a law alone. The law of a timer: what it counts is the sum over its segments.
use Rattle.std.specs.Prelude.{◌≡◌, ℕ, ◌-◌, true, false, List, sum_by}
use Rattle.qo_values.specs.Registers.{fresh_timer}
use Rattle.qo_values.specs.Timer.{span_ticks, timer_ticks}
use Rattle.qo_timer.specs.Calls.{TimerCall, after_calls, updates_follow}
use Rattle.qo_timer.specs.Segments.{Mark, Segment, marks, segments}

-- the ticks of a segment, rounded down
abbrev pub segment_ticks : Segment → ℕ
segment_ticks s = span_ticks (s.to - s.from) s.period

-- the ticks of all segments that marks leave, an open one up to now
abbrev pub total_ticks : List Mark → ℕ → ℕ → ℕ
total_ticks made now period = sum_by segment_ticks (segments made now period)

-- after every list of a timer's calls in which each Update directly follows a Pre, at every moment and period: the ticks
-- that the registers count are the sum over the segments that the calls mark out (no premise on the moments is needed)
abbrev pub LawSum : Type 0
LawSum = (calls : List TimerCall) (now period : ℕ) →
    updates_follow false calls ≡ true →
    timer_ticks (after_calls fresh_timer calls) now period ≡ total_ticks (marks false calls) now period
