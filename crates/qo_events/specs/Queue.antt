-- For proofs alone. What contracts see of the events that wait.
use Rattle.std.specs.Prelude.{ℕ, ◌+◌, ◌-◌, List, [], ◌∷◌, ◌++◌, length}
use Rattle.qo_model.specs.Board.{DeviceEvent}

-- the events in the order of their coming, how many places are promised to events that have to come, and how many more
-- there is memory for
pub record Waiting : Type 0 where
  pub list : List DeviceEvent
  pub promised : ℕ
  pub spare : ℕ

-- no event waits, none is promised a place, and there is no place
abbrev pub none_waiting : Waiting
none_waiting = record { list = []; promised = 0; spare = 0 }

-- a free place is promised
abbrev pub promised : Waiting → Waiting
promised w = record w { promised = w.promised + 1; spare = w.spare - 1 }

-- an event more
abbrev pub added : DeviceEvent → Waiting → Waiting
added event w = record w { list = w.list ++ event ∷ [] }

-- an event comes into a place that was promised
abbrev pub kept : DeviceEvent → Waiting → Waiting
kept event w = record w { list = w.list ++ event ∷ []; promised = w.promised - 1 }

-- all were told: their places are free
abbrev pub cleared : Waiting → Waiting
cleared w = record w { list = []; spare = w.spare + length w.list }
