-- For a law alone. Final notes over lists of changes of the board, from the opening board on.
use Rattle.std.specs.Prelude.{◌≡◌, ℕ, true, List, [], ◌∷◌, ◌++◌, None, Result, Ok, Err}
use Rattle.qo_values.specs.declared.codes.Code.{Code}
use Rattle.qo_values.specs.declared.kinds.Act.{Act}
use Rattle.qo_values.specs.declared.properties.Val.{Val}
use Rattle.qo_model.specs.declared.notes.Deed.TheVariants.{Did}
use Rattle.qo_model.specs.Board.{Board, is_live}
use Rattle.qo_model.specs.FinalNotes.{FinalOnce, NotesInOrder}
use Rattle.qo_model.specs.Notes.{deed_type}
use Rattle.qo_model.specs.Objects.{Given, object_add, object_del, sever}
use Rattle.qo_model.specs.Opening.{opening_board}
use Rattle.qo_model.specs.Properties.{write}
use Rattle.qo_model.specs.Release.{finalize, let_go, unpin}

-- a change: `object-add` of a type's name, an id and properties; `object-del` of an id; a value to the property of a name of an object; or `x-sever` of an
-- object
pub data Change : Type 0 where
  added : List ℕ → List ℕ → List Given → Change
  deleted : List ℕ → Change
  wrote : ℕ → List ℕ → Val → Change
  severed : ℕ → Change

-- the board after a value that was written; it stays where this was refused
abbrev pub after_write : Board → Result Board Code → Board
after_write b (Ok c) = c
after_write b (Err code) = b

-- the board after a change
abbrev pub changed : Board → Change → Board
changed b (added driver id props) = (object_add b driver id props).board
changed b (deleted id) = (object_del b id).board
changed b (wrote n name v) = after_write b (write b n name v)
changed b (severed n) = (sever b n).board

-- an act of n is noted
abbrev pub with_act : ℕ → Act → Board → Board
with_act n act b = record b { notes = b.notes ++ record { birth = n; deed = Did act } ∷ [] }

-- the board after changes, one after another
abbrev pub after_changes : Board → List Change → Board
after_changes b [] = b
after_changes b (change ∷ changes) = after_changes (changed b change) changes

-- final notes over steps and changes
pub record FinalOnceLaw : Type 0 where
  -- a release keeps notes in order, and so does an act that is noted on an object that is there, if it does not begin it
  pub finalized : (b : Board) (n : ℕ) → NotesInOrder b → NotesInOrder (finalize b n)
  pub slot_let_go : (b : Board) (owner i : ℕ) → NotesInOrder b → NotesInOrder (let_go b owner i)
  pub unpinned : (b : Board) (n : ℕ) → NotesInOrder b → NotesInOrder (unpin b n)
  pub acted : (b : Board) (n : ℕ) (act : Act) → is_live b n ≡ true → deed_type (Did act) ≡ None → NotesInOrder b → NotesInOrder (with_act n act b)
  -- each change keeps them in order; they are so on the opening board, and so after any changes of it
  pub step : (b : Board) (change : Change) → NotesInOrder b → NotesInOrder (changed b change)
  pub opening : NotesInOrder opening_board
  pub run : (changes : List Change) → NotesInOrder (after_changes opening_board changes)
  -- where they are in order each birth has its final notes at most once, derived first, and no note after them; so it is after any changes of the opening
  -- board
  pub once : (b : Board) → NotesInOrder b → (n : ℕ) → FinalOnce n b.notes
  pub once_in_run : (changes : List Change) (n : ℕ) → FinalOnce n (after_changes opening_board changes).notes
