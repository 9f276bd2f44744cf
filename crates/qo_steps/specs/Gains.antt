-- For a law alone. What a board keeps through every change, and gains.
use Rattle.std.specs.Prelude.{◌≡◌, ℕ, ◌≤◌, true, List, ◌++◌}
use Rattle.qo_model.specs.Board.{Board, DeviceEvent, is_live, kind_of}
use Rattle.qo_model.specs.declared.notes.Note.{Note}
use Rattle.qo_steps.specs.Changes.{Changes}

-- births, and accepted adds without an id, are not fewer; what was noted stays, and what is noted comes after it; so do the events; who is there and was born
-- before was there before, as an object of the same type; and the time, whether the machine runs, and the rings are as before
pub record Gains (b c : Board) : Type 0 where
  pub born : b.born ≤ c.born
  pub anonymous : b.anonymous ≤ c.anonymous
  pub notes : (more : List Note) × (c.notes ≡ b.notes ++ more)
  pub events : (more : List DeviceEvent) × (c.events ≡ b.events ++ more)
  pub old : (n : ℕ) → n ≤ b.born → is_live c n ≡ true → kind_of c n ≡ kind_of b n
  pub now : c.now ≡ b.now
  pub running : c.running ≡ b.running
  pub rings : c.rings ≡ b.rings

-- on every board
abbrev pub GainsLaw : Type 0
GainsLaw = Changes (λ types. Gains)
