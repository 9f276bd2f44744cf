-- For a law alone. What keeps the places of devices sound.
use Rattle.std.specs.Prelude.{◌≡◌, ℕ, ◌≤◌, Bool, true, List}
use Rattle.qo_values.specs.declared.kinds.TypeId.{TypeId}
use Rattle.qo_model.specs.Board.{Board}
use Rattle.qo_model.specs.FinalNotesRuns.{Change, after_changes, changed}
use Rattle.qo_model.specs.Hotplug.{asked, refused}
use Rattle.qo_model.specs.Objects.{with_attempt}
use Rattle.qo_model.specs.Opening.{opening_board}
use Rattle.qo_model.specs.Plug.{Wanted, cut_attempt, plug, plug_attempt}
use Rattle.qo_model.specs.Unplug.{detach}
use Rattle.qo_sound.specs.TreeKept.{SoundTree}
use Rattle.qo_sound_devices.specs.SoundPlaces.{SoundPlaces, stands}

-- what keeps the places sound, where the tree is
pub record PlacesKeptLaw : Type 0 where
  -- they are sound on the opening board, and after any changes of it by commands on objects
  pub opening : SoundPlaces opening_board
  pub run : (changes : List Change) → SoundPlaces (after_changes opening_board changes)
  -- each change by command on objects, taken or refused
  pub change : (b : Board) (change : Change) → SoundTree b → SoundPlaces b → SoundPlaces (changed b change)
  -- an attempt that was given up: to make an object, to add a device, and one that was cut
  pub attempt : (b : Board) (t : TypeId) → SoundTree b → SoundPlaces b → SoundPlaces (with_attempt b t)
  pub given_up : (b : Board) (t : TypeId) (bus stage : ℕ) → SoundTree b → SoundPlaces b → SoundPlaces (plug_attempt b t bus stage)
  pub cut : (b : Board) (t : TypeId) (i : ℕ) (joined : Bool) → SoundTree b → SoundPlaces b → SoundPlaces (cut_attempt b t i joined)
  -- a removal that is asked for, or refused by the guest; and what changes no object and no number of accepted adds, as a notice that is read
  pub asked_for : (b : Board) (id : List ℕ) → SoundTree b → SoundPlaces b → SoundPlaces (asked b id).board
  pub refused_by : (b : Board) (d : ℕ) → SoundTree b → SoundPlaces b → SoundPlaces (refused b d)
  pub beside : (b c : Board) → c.records ≡ b.records → b.born ≤ c.born → c.anonymous ≡ b.anonymous → SoundTree b → SoundPlaces b → SoundPlaces c
  -- adding a device, taken or refused at any stage
  pub plugged : (b : Board) (a : Wanted) → SoundTree b → SoundPlaces b → SoundPlaces (plug b a).board
  -- a device that stands in a container and is detached, with all that is below it
  pub detached : (b : Board) (d : ℕ) → SoundTree b → SoundPlaces b → stands b d ≡ true → SoundPlaces (detach b d)
