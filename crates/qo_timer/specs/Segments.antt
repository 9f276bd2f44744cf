-- For a law alone. The segments that a list of a timer's calls marks out: the spans in which the timer was enabled under one period.
use Rattle.std.specs.Prelude.{ℕ, ◌%◌, Bool, true, false, ◌==◌, if◌then◌else◌, List, [], ◌∷◌, ◌++◌}
use Rattle.std.specs.List.{list_any}
use Rattle.qo_timer.specs.Calls.{TimerCall, enter, pre, update, halt, write}

-- what a call does to the segments
pub data Mark : Type 0 where
  empties : Mark
  begins : (now : ℕ) → Mark
  ends : (now period : ℕ) → Mark

-- whether the timer is enabled after a call, where it was so or not before: bit 0 of CTRL, until Enter and halt
abbrev pub enabled_after : Bool → TimerCall → Bool
enabled_after enabled enter = false
enabled_after enabled (halt now period) = false
enabled_after enabled (write reg value now period) = if reg == 0 then value % 2 == 1 else enabled
enabled_after enabled _ = enabled

-- CTRL from 0 to 1 empties the segments and begins one; from 1 to 0 ends the open one; an equal bit changes nothing
abbrev pub control_marks : Bool → Bool → ℕ → ℕ → List Mark
control_marks false true now period = empties ∷ begins now ∷ []
control_marks true false now period = ends now period ∷ []
control_marks _ _ now period = []

-- a write of RELOAD empties the segments, and where enabled one begins
abbrev pub reload_marks : Bool → ℕ → List Mark
reload_marks true now = empties ∷ begins now ∷ []
reload_marks false now = empties ∷ []

-- what a call does to the segments of a timer that is enabled or not: Enter empties them; where enabled, Pre ends the
-- open one with the old period, Update begins one, and halt ends the open one
abbrev pub call_marks : Bool → TimerCall → List Mark
call_marks enabled enter = empties ∷ []
call_marks true (pre now old) = ends now old ∷ []
call_marks true (update now) = begins now ∷ []
call_marks true (halt now period) = ends now period ∷ []
call_marks enabled (write reg value now period) =
    if reg == 0 then control_marks enabled (value % 2 == 1) now period
    else if reg == 1 then reload_marks enabled now
    else []
call_marks _ _ = []

-- what calls do to the segments, from the first on, of a timer that is enabled or not before them
abbrev pub marks : Bool → List TimerCall → List Mark
marks enabled [] = []
marks enabled (call ∷ calls) = call_marks enabled call ++ marks (enabled_after enabled call) calls

-- a segment: where it begins and ends, and the period in it
pub record Segment : Type 0 where
  pub from : ℕ
  pub to : ℕ
  pub period : ℕ

-- the segment that begins at a moment: the first end after it ends it; without one it is open and reaches to now
abbrev pub segment_from : ℕ → List Mark → ℕ → ℕ → Segment
segment_from from [] now period = record { from = from; to = now; period = period }
segment_from from (ends at old ∷ after) now period = record { from = from; to = at; period = old }
segment_from from (_ ∷ after) now period = segment_from from after now period

abbrev pub is_emptying : Mark → Bool
is_emptying empties = true
is_emptying _ = false

-- the segments that marks leave: one for each begin that no emptying follows
abbrev pub segments : List Mark → ℕ → ℕ → List Segment
segments [] now period = []
segments (begins from ∷ after) now period =
    if list_any is_emptying after then segments after now period
    else segment_from from after now period ∷ segments after now period
segments (_ ∷ after) now period = segments after now period
