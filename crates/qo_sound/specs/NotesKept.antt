-- For a law alone. What keeps the notes of a board in order where devices come and go.
use Rattle.std.specs.Prelude.{◌≡◌, ℕ, Bool, true, List}
use Rattle.qo_values.specs.declared.kinds.TypeId.{TypeId}
use Rattle.qo_model.specs.Board.{Board, is_live}
use Rattle.qo_model.specs.FinalNotes.{NotesInOrder}
use Rattle.qo_model.specs.Hotplug.{asked, refused}
use Rattle.qo_model.specs.Plug.{Wanted, cut_attempt, plug}
use Rattle.qo_model.specs.Reset.{after_hold, pulse, released}
use Rattle.qo_model.specs.Unplug.{detach}
use Rattle.qo_sound.specs.TreeKept.{SoundTree}
use Rattle.qo_values.specs.declared.kinds.ResetKind.{ResetKind}

-- what keeps notes in order
pub record NotesKeptLaw : Type 0 where
  -- adding a device, taken or refused at any stage, and an attempt at it that was cut
  pub plugged : (b : Board) (a : Wanted) → SoundTree b → NotesInOrder b → NotesInOrder (plug b a).board
  pub cut : (b : Board) (t : TypeId) (i : ℕ) (joined : Bool) → NotesInOrder b → NotesInOrder (cut_attempt b t i joined)
  -- a device that is there and is detached, with all that is below it
  pub detached : (b : Board) (d : ℕ) → SoundTree b → is_live b d ≡ true → NotesInOrder b → NotesInOrder (detach b d)
  -- an object that is there is held in reset, with all that is below it, or released, or both
  pub held_so : (b : Board) (n : ℕ) (kind : ResetKind) → SoundTree b → is_live b n ≡ true → NotesInOrder b → NotesInOrder (after_hold b n kind)
  pub released_so : (b : Board) (n : ℕ) → SoundTree b → is_live b n ≡ true → NotesInOrder b → NotesInOrder (released b n)
  pub pulsed : (b : Board) (n : ℕ) (kind : ResetKind) → SoundTree b → is_live b n ≡ true → NotesInOrder b → NotesInOrder (pulse b n kind)
  -- a removal that is asked for, or refused by the guest; and what changes no object, no birth and no note
  pub asked_for : (b : Board) (id : List ℕ) → NotesInOrder b → NotesInOrder (asked b id).board
  pub refused_by : (b : Board) (d : ℕ) → NotesInOrder b → NotesInOrder (refused b d)
  pub beside : (b c : Board) → c.records ≡ b.records → c.born ≡ b.born → c.notes ≡ b.notes → NotesInOrder b → NotesInOrder c
