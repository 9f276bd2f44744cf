-- For proofs alone. The heap as a part of the board.
use Rattle.std.specs.Prelude.{◌≡◌, ℕ, List, [], ◌∷◌, ◌++◌, map, replicate}
use Rattle.qo_slots.specs.declared.keys.Key.{Key}
use Rattle.qo_object.specs.Content.{Content}
use Rattle.qo_object.specs.BoardObject.{shown}
use Rattle.qo_model.specs.Board.{Board, Record}
use Rattle.qo_heap.specs.Log.{IsLogOf}
use Rattle.qo_heap.specs.Objects.{Objects}

-- an object as one of the board's
abbrev pub record_of : Key × Content → Record
record_of row = shown row.0.birth row.1

-- the pins of the board: each object's birth as often as it is pinned, in the order of births
abbrev pub pins_in : List (Key × Content) → List ℕ
pins_in [] = []
pins_in (row ∷ rows) = replicate row.1.pins row.0.birth ++ pins_in rows

-- a heap has a board's objects, births, pins, notes, events that wait, and virtual time
pub record Shows (b : Board) (v : Objects) : Type 0 where
  pub records : b.records ≡ map record_of v.rows
  pub born : b.born ≡ v.born
  pub pins : b.pins ≡ pins_in v.rows
  pub notes : IsLogOf b.notes v.log
  pub events : b.events ≡ v.events.list
  pub now : b.now ≡ v.time
