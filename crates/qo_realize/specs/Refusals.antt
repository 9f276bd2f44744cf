-- For a law alone. What is left where a device is refused, given up, or cut for want of memory: the board as it was, but for births and notes.
use Rattle.std.specs.Prelude.{◌≡◌, ℕ, ◌≤◌, Bool, List, ◌++◌, Some, Err}
use Rattle.qo_values.specs.declared.codes.Code.{Code}
use Rattle.qo_model.specs.Board.{Board}
use Rattle.qo_model.specs.Objects.{Given, attempted_as, object_add}
use Rattle.qo_model.specs.Plug.{Wanted, plug}
use Rattle.qo_model.specs.declared.notes.Note.{Note}
use Rattle.qo_plug.specs.Cuts.{cut_as}
use Rattle.qo_realize.specs.Parts.{Parts}
use Rattle.qo_realize.specs.Representation.{Stands}
use Rattle.qo_realize.specs.Stages.{Begins, DraftParts, Finishes, Places, given_up}
use Rattle.qo_realize.specs.declared.stages.NotAdded.{NotAdded}

-- a board is as it was: its tree, and all that stands beside it; an attempt may have used births and left notes after those that were there
pub record AsItWas (b c : Board) : Type 0 where
  pub same : record c { born = b.born; notes = b.notes } ≡ b
  pub births : b.born ≤ c.born
  pub notes : (more : List Note) × (c.notes ≡ b.notes ++ more)

-- these parts stand for a board that is as it was
abbrev pub StandAsItWas : Board → Parts → Type 0
StandAsItWas b p = (c : Board) × AsItWas b c × Stands c p

pub record RefusedDevicesLaw : Type 0 where
  -- a device and a user's object that are refused leave the board as it was, and so does an attempt that is cut for want of memory
  pub device : (b : Board) (a : Wanted) (refusal : ℕ × Code) → (plug b a).refusal ≡ Some refusal → AsItWas b (plug b a).board
  pub cut : (b : Board) (a : Wanted) (i : ℕ) (joined : Bool) → AsItWas b (cut_as b a i joined)
  pub object : (b : Board) (driver id : List ℕ) (props : List Given) (code : Code) → (object_add b driver id props).refusal ≡ Some code
      → AsItWas b (object_add b driver id props).board
  pub attempt : (b : Board) (driver id : List ℕ) → AsItWas b (attempted_as b driver id)
  -- so does each stage of an add that is made in stages, and a device that was begun and is abandoned
  pub begun : (b : Board) (a : Wanted) (e : NotAdded) → Begins b a (Err e) → StandAsItWas b e.board
  pub placed : (b : Board) (a : Wanted) (e : NotAdded) → Places b a (Err e) → StandAsItWas b e.board
  pub finished : (b : Board) (a : Wanted) (e : NotAdded) → Finishes b a (Err e) → StandAsItWas b e.board
  pub abandoned : (b : Board) (d : DraftParts) → AsItWas b (given_up b d)
