-- What keeps the tree of a board sound.
use Rattle.std.specs.Prelude.{ℕ, Bool, List}
use Rattle.qo_values.specs.declared.kinds.TypeId.{TypeId}
use Rattle.qo_model.specs.Board.{Board}
use Rattle.qo_model.specs.FinalNotesRuns.{Change, after_changes, changed}
use Rattle.qo_model.specs.Hotplug.{reset_whole}
use Rattle.qo_model.specs.Objects.{with_attempt}
use Rattle.qo_model.specs.Opening.{opening_board}
use Rattle.qo_model.specs.Plug.{Wanted, cut_attempt, plug}
use Rattle.qo_model.specs.Reset.{after_hold, released}
use Rattle.qo_model.specs.SoundAliases.{SoundAliases}
use Rattle.qo_model.specs.SoundGraph.{SoundGraph}
use Rattle.qo_model.specs.Unplug.{detach}
use Rattle.qo_values.specs.declared.kinds.ResetKind.{ResetKind}

-- the tree is sound, and no alias outlasts what it passes on to
abbrev pub SoundTree : Board → Type 0
SoundTree b = SoundGraph b × SoundAliases b

-- what keeps the tree sound
pub record SoundKeptLaw : Type 0 where
  -- each change by command on objects, taken or refused
  pub change : (b : Board) (change : Change) → SoundTree b → SoundTree (changed b change)
  -- an attempt to make an object that was given up
  pub attempt : (b : Board) (t : TypeId) → SoundGraph b → SoundGraph (with_attempt b t)
  pub attempt_aliases : (b : Board) (t : TypeId) → SoundAliases b → SoundAliases (with_attempt b t)
  -- adding a device, taken or refused at any stage, and an attempt at it that was cut; and a device that is detached with all that is below it
  pub plugged : (b : Board) (a : Wanted) → SoundTree b → SoundTree (plug b a).board
  pub cut : (b : Board) (t : TypeId) (i : ℕ) (joined : Bool) → SoundTree b → SoundTree (cut_attempt b t i joined)
  pub detached : (b : Board) (d : ℕ) → SoundTree b → SoundTree (detach b d)
  -- a hold of a reset, and a hold less; and the reset of the whole board
  pub held_so : (b : Board) (n : ℕ) (kind : ResetKind) → SoundTree b → SoundTree (after_hold b n kind)
  pub released_so : (b : Board) (n : ℕ) → SoundTree b → SoundTree (released b n)
  pub reset : (b : Board) → SoundTree b → SoundTree (reset_whole b)
  -- so the tree is sound after any changes of the opening board
  pub run : (changes : List Change) → SoundGraph (after_changes opening_board changes)
  pub run_aliases : (changes : List Change) → SoundAliases (after_changes opening_board changes)
