-- For a law alone. What the commands on objects leave of a board.
use Rattle.std.specs.Prelude.{◌≡◌, List}
use Rattle.qo_values.specs.declared.kinds.TypeId.{TypeId}
use Rattle.qo_model.specs.Board.{Board}
use Rattle.qo_model.specs.FinalNotesRuns.{Change, after_changes, changed}
use Rattle.qo_model.specs.Objects.{with_attempt}

-- all but objects, births, pins, notes and events is as before
pub record Stays (b c : Board) : Type 0 where
  pub anonymous : c.anonymous ≡ b.anonymous
  pub now : c.now ≡ b.now
  pub running : c.running ≡ b.running
  pub holds : c.holds ≡ b.holds
  pub pending : c.pending ≡ b.pending
  pub notices : c.notices ≡ b.notices
  pub rings : c.rings ≡ b.rings

-- on every board
pub record StaysLaw : Type 0 where
  -- each change by command on objects, taken or refused
  pub change : (b : Board) (change : Change) → Stays b (changed b change)
  -- an attempt to make an object that was given up
  pub attempt : (b : Board) (t : TypeId) → Stays b (with_attempt b t)
  -- any changes, one after another
  pub run : (b : Board) (changes : List Change) → Stays b (after_changes b changes)
