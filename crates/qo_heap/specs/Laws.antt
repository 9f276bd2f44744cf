-- For a law alone. What the log of some notes gives of them.
use Rattle.std.specs.Prelude.{◌≡◌, ℕ, ◌-◌, ◌^◌, ◌<◌, List, [], ◌∷◌, ◌++◌, take, drop}
use Rattle.qo_values.specs.declared.limits.TheConstants.{NOTES_PER_REPLY}
use Rattle.qo_model.specs.declared.notes.Note.{Note}
use Rattle.qo_heap.specs.Log.{Log, IsLogOf, empty_log, noted, noted_all, first_from, given_from}

-- the log without notes is that of no notes, and notes more make it the log of the notes and these
pub record LogLaw : Type 0 where
  pub none : IsLogOf [] empty_log
  pub one : (notes : List Note) (log : Log) (n : Note) → IsLogOf notes log → IsLogOf (notes ++ n ∷ []) (noted n log)
  pub all : (notes ns : List Note) (log : Log) → IsLogOf notes log → IsLogOf (notes ++ ns) (noted_all ns log)
  pub parts : (xs ys : List Note) (log : Log) → noted_all (xs ++ ys) log ≡ noted_all ys (noted_all xs log)

-- a reading gives the notes from its first number on, at most `NOTES_PER_REPLY`, where the total still counts each note
abbrev pub GivenLaw : Type 0
GivenLaw = (notes : List Note) (log : Log) (from : ℕ) → IsLogOf notes log → log.total < 2 ^ 64 - 1
    → given_from from log ≡ take NOTES_PER_REPLY (drop (first_from from log) notes)
