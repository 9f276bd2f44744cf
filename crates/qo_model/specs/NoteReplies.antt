-- What a reading of the notes gives (the profile's `x-query-notes`).
use Rattle.std.specs.Prelude.{ℕ, ◌-◌, min, max, List, length, drop, take}
use Rattle.qo_values.specs.declared.limits.TheConstants.{NOTES_KEPT, NOTES_PER_REPLY}
use Rattle.qo_model.specs.Notes.{kept_of, total_of}
use Rattle.qo_model.specs.declared.notes.Note.{Note}

-- the first number that is given: the one asked for, raised to the total less those kept where that is greater, and lowered to the total where it is above
abbrev pub first_from : ℕ → List Note → ℕ
first_from from notes = min (max from (total_of notes - NOTES_KEPT)) (total_of notes)

-- the notes that are given: from that number on, as many as one reply has at most; numbers count all notes from 0, so the first kept has the total less how
-- many are kept
abbrev pub given_from : ℕ → List Note → List Note
given_from from notes = take NOTES_PER_REPLY (drop (first_from from notes - (total_of notes - length (kept_of notes))) (kept_of notes))
