-- For proofs alone. How the scanner of an object stands to the definitions on fronts.
use Rattle.std.specs.Prelude.{◌≡◌, ℕ, ◌+◌, ◌-◌, ◌%◌, ◌<◌, ◌≤◌, ◌==◌, Bool, ◌||◌, not, if◌then◌else◌, List, ◌++◌, length, reverse, take, Some, None, nat_le, ⊤}
use Rattle.qo_values.specs.declared.limits.TheConstants.{NESTING_MAX}
use Rattle.qo_framing.specs.Classes.{is_opening, is_closing, is_reset}
use Rattle.qo_framing.specs.Fronts.{backslashes, in_string, depth, end_after}
use Rattle.qo_framing.specs.declared.scanner.Ending.{Ending}
use Rattle.qo_framing.specs.declared.scanner.Ending.TheVariants as ending
use Rattle.qo_framing.specs.declared.scanner.StringState.{StringState}
use Rattle.qo_framing.specs.declared.scanner.StringState.TheVariants.{Outside, InString, Escaped}
use Rattle.qo_framing.specs.declared.scanner.Scanner.{Scanner}
use Rattle.qo_framing.specs.declared.scanner.Step.{Step}
use Rattle.qo_framing.specs.declared.scanner.Step.TheVariants as step
use Rattle.qo_framing.specs.declared.scanner.Scanned.{Scanned}
use Rattle.qo_framing.specs.declared.scanner.Scanned.TheVariants as scanned

-- the place after a front: outside strings, or in one, perhaps after a backslash that hides the next byte
abbrev pub place_after : List ℕ → StringState
place_after front =
    if in_string front then (if backslashes front % 2 == 0 then InString else Escaped) else Outside

-- a scanner stands after a front of an object that has not ended
pub record IsAfter (front : List ℕ) (s : Scanner) : Type 0 where
  pub depth : s.depth ≡ depth front
  pub place : s.place ≡ place_after front
  pub some : 0 < s.depth
  pub most : s.depth ≤ NESTING_MAX

-- a scanner in another place
abbrev pub moved : Scanner → StringState → Step
moved s place = step.Goes (record { depth = s.depth; place = place })

-- one bracket more is open, or it is one too many
abbrev pub opened : Scanner → Step
opened s = if nat_le NESTING_MAX s.depth then step.Ends ending.TooDeep else step.Goes (record { depth = s.depth + 1; place = s.place })

-- one bracket less is open, or none is left
abbrev pub closed : Scanner → Step
closed s = if nat_le s.depth 1 then step.Ends ending.Whole else step.Goes (record { depth = s.depth - 1; place = s.place })

-- what a byte that does not reset does in a place
abbrev pub step_in : StringState → Scanner → ℕ → Step
step_in Escaped s b = moved s InString
step_in InString s b = if b == 34 then moved s Outside else (if b == 92 then moved s Escaped else step.Goes s)
step_in Outside s b =
    if b == 34 then moved s InString
    else (if is_opening b then opened s else (if is_closing b then closed s else step.Goes s))

-- a byte that means nothing to framing
abbrev pub is_plain : ℕ → Bool
is_plain b = not (is_reset b || b == 34 || b == 92 || is_opening b || is_closing b)

-- what such a byte does
abbrev pub plain_step : StringState → Scanner → Step
plain_step Escaped s = moved s InString
plain_step InString s = step.Goes s
plain_step Outside s = step.Goes s

-- what a byte does that is not one too many
abbrev pub step_of : Scanner → ℕ → Step
step_of s b = if is_reset b then step.Ends ending.Broken else step_in s.place s b

-- how a byte that is one too many ends an object
abbrev pub one_too_many : ℕ → Ending
one_too_many b = if is_reset b then ending.Broken else ending.TooLong

-- the first so many bytes were scanned after a front: nothing ended, and the scanner stands after them
abbrev pub HasScanned : List ℕ → List ℕ → ℕ → Scanner → Type 0
HasScanned front bytes n s = (end_after front (take n bytes) ≡ None) × IsAfter (reverse (take n bytes) ++ front) s

-- what a scan of bytes after a front found: no end, and where the scanner stands; or the end
abbrev pub Scans : List ℕ → List ℕ → Scanned → Type 0
Scans front bytes (scanned.Open s) = (end_after front bytes ≡ None) × IsAfter (reverse bytes ++ front) s
Scans front bytes (scanned.Ended how n) = end_after front bytes ≡ Some (record { how = how; count = n })

-- the number of bytes of an end is that of bytes that are there
abbrev pub CountsWithin : List ℕ → Scanned → Type 0
CountsWithin bytes (scanned.Open s) = ⊤
CountsWithin bytes (scanned.Ended how n) = (0 < n) × (n ≤ length bytes)

-- what a scan found that took at most so many bytes
abbrev pub OpenWithin : ℕ → List ℕ → Scanned → Type 0
OpenWithin room bytes (scanned.Open s) = length bytes ≤ room
OpenWithin room bytes (scanned.Ended how n) = ⊤
