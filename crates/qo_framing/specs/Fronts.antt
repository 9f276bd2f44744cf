-- What a front of an object says, and how an object ends. A front is listed backwards: its last byte first.
use Rattle.std.specs.Prelude.{ℕ, ◌+◌, ◌-◌, ◌%◌, Bool, false, not, ◌&&◌, ◌==◌, if◌then◌else◌, List, [], ◌∷◌, length, count_by, Option, Some, None, option_map}
use Rattle.qo_values.specs.declared.limits.TheConstants.{MESSAGE_MAX, NESTING_MAX}
use Rattle.qo_framing.specs.Classes.{is_reset, is_opening, is_closing}
use Rattle.qo_framing.specs.declared.scanner.Ending.{Ending}
use Rattle.qo_framing.specs.declared.scanner.Ending.TheVariants.{Whole, Broken, TooLong, TooDeep}

-- how many backslashes stand at the end
abbrev pub backslashes : List ℕ → ℕ
backslashes [] = 0
backslashes (b ∷ before) = if b == 92 then backslashes before + 1 else 0

-- whether the next byte stands in a string: a quote outside strings opens one, and the first later quote after an even number of backslashes closes it
abbrev pub in_string : List ℕ → Bool
in_string [] = false
in_string (b ∷ before) = if b == 34 then not (in_string before && backslashes before % 2 == 0) else in_string before

-- the bytes that stand outside strings
abbrev pub outside : List ℕ → List ℕ
outside [] = []
outside (b ∷ before) = if in_string before then outside before else b ∷ outside before

-- the depth: the opening less the closing brackets outside strings
abbrev pub depth : List ℕ → ℕ
depth front = count_by is_opening (outside front) - count_by is_closing (outside front)

-- how an object ends with the last byte of a front, if it does: it is broken off by a reset byte, has a byte more than MESSAGE_MAX, opens a depth above
-- NESTING_MAX, or is back at depth 0
abbrev pub ending : List ℕ → Option Ending
ending [] = None
ending (b ∷ before) =
    if is_reset b then Some Broken
    else (if length (b ∷ before) == MESSAGE_MAX + 1 then Some TooLong
    else (if not (in_string before) && is_opening b && depth (b ∷ before) == NESTING_MAX + 1 then Some TooDeep
    else (if not (in_string before) && depth (b ∷ before) == 0 then Some Whole
    else None)))

-- how an object ends, and with how many bytes
pub record End : Type 0 where
  pub how : Ending
  pub count : ℕ

-- an end, counted from some bytes earlier
abbrev pub later : ℕ → Option End → Option End
later n found = option_map (λ e. record { how = e.how; count = n + e.count }) found

-- an end with the first byte, or else the one that comes with later ones
abbrev pub here_or_later : Option Ending → Option End → Option End
here_or_later (Some how) found = Some (record { how = how; count = 1 })
here_or_later None found = later 1 found

-- the end of an object by the fewest bytes after a front
abbrev pub end_after : List ℕ → List ℕ → Option End
end_after before [] = None
end_after before (b ∷ bytes) = here_or_later (ending (b ∷ before)) (end_after (b ∷ before) bytes)
