-- For a law alone. A board that comes later than another in a run.
use Rattle.std.specs.Prelude.{◌≡◌, ℕ, ◌≤◌, true, List, ◌++◌}
use Rattle.qo_causes.specs.declared.inputs.Input.{Input}
use Rattle.qo_model.specs.Board.{Board, is_live, kind_of}
use Rattle.qo_model.specs.declared.notes.Note.{Note}
use Rattle.qo_machine.specs.Machine.{Choice, State, step}
use Rattle.qo_machine.specs.Runs.{Turn, state_after}

-- each step and each run relate the board before them to that after them
pub record RelatedInRuns (R : Board → Board → Type 0) : Type 0 where
  pub step : (s : State) (input : Input) (choices : List Choice) → R s.board (step s input choices).state.board
  pub run : (s : State) (turns : List Turn) → R s.board (state_after s turns).board

-- c comes later than b: births and the time do not go back; what was noted stays, and what is noted comes after it; and no birth is given twice, so that who is
-- there and was born before was there before, as an object of the same type
pub record IsLater (b c : Board) : Type 0 where
  pub born : b.born ≤ c.born
  pub now : b.now ≤ c.now
  pub notes : (more : List Note) × (c.notes ≡ b.notes ++ more)
  pub old : (n : ℕ) → n ≤ b.born → is_live c n ≡ true → kind_of c n ≡ kind_of b n

abbrev pub LaterInRuns : Type 0
LaterInRuns = RelatedInRuns IsLater
