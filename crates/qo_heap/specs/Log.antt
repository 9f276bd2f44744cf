-- For proofs alone. The log of the notes on objects: how many there were, and the last `NOTES_KEPT`.
use Rattle.std.specs.Prelude.{◌≡◌, ℕ, ◌+◌, ◌-◌, ◌^◌, min, max, List, [], ◌∷◌, ◌++◌, length, take, drop}
use Rattle.qo_values.specs.declared.limits.TheConstants.{NOTES_KEPT, NOTES_PER_REPLY}
use Rattle.qo_model.specs.Notes.{total_of, kept_of}
use Rattle.qo_model.specs.declared.notes.Note.{Note}

-- how many notes there were, and those that are kept, in order
pub record Log : Type 0 where
  pub total : ℕ
  pub kept : List Note

-- a log without notes
abbrev pub empty_log : Log
empty_log = record { total = 0; kept = [] }

-- a log with a note more
abbrev pub noted : Note → Log → Log
noted n log = record { total = min (log.total + 1) (2 ^ 64 - 1); kept = kept_of (log.kept ++ n ∷ []) }

-- a log with notes more, in order
unfoldable pub noted_all : List Note → Log → Log
noted_all [] log = log
noted_all (n ∷ ns) log = noted_all ns (noted n log)

-- a log is that of these notes
pub record IsLogOf (notes : List Note) (log : Log) : Type 0 where
  pub total : log.total ≡ total_of notes
  pub kept : log.kept ≡ kept_of notes

-- the first number that a reading gives: `from`, raised to the total less `NOTES_KEPT` where that is greater, and lowered to the total where it is above
abbrev pub first_from : ℕ → Log → ℕ
first_from from log = min (max from (log.total - NOTES_KEPT)) log.total

-- the notes that a reading gives: from that number on, at most `NOTES_PER_REPLY`; numbers count all notes from 0, so the first kept has the total less how many
-- are kept
abbrev pub given_from : ℕ → Log → List Note
given_from from log = take NOTES_PER_REPLY (drop (first_from from log - (log.total - length log.kept)) log.kept)
