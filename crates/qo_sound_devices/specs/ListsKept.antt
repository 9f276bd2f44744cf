-- For a law alone. What keeps the lists of pending removals and of notices sound.
use Rattle.std.specs.Prelude.{◌≡◌, ℕ, Bool, true, List, ◌∷◌}
use Rattle.qo_values.specs.declared.kinds.TypeId.{TypeId}
use Rattle.qo_model.specs.Board.{Board, Notice}
use Rattle.qo_model.specs.FinalNotesRuns.{Change, after_changes, changed}
use Rattle.qo_model.specs.Hotplug.{asked, refused}
use Rattle.qo_model.specs.Objects.{with_attempt}
use Rattle.qo_model.specs.Opening.{opening_board}
use Rattle.qo_model.specs.Plug.{Wanted, cut_attempt, plug, plug_attempt}
use Rattle.qo_model.specs.Unplug.{detach}
use Rattle.qo_sound_devices.specs.SoundDevices.{SoundDevices}
use Rattle.qo_sound_devices.specs.SoundLists.{SoundLists}
use Rattle.qo_sound_devices.specs.SoundPlaces.{stands}

-- what keeps the lists sound, where the tree and the places are too
pub record ListsKeptLaw : Type 0 where
  -- they are sound on the opening board, and after any changes of it by commands on objects
  pub opening : SoundLists opening_board
  pub run : (changes : List Change) → SoundLists (after_changes opening_board changes)
  -- each change by command on objects, taken or refused
  pub change : (b : Board) (change : Change) → SoundDevices b → SoundLists (changed b change)
  -- an attempt that was given up: to make an object, to add a device, and one that was cut
  pub attempt : (b : Board) (t : TypeId) → SoundLists b → SoundLists (with_attempt b t)
  pub given_up : (b : Board) (t : TypeId) (bus stage : ℕ) → SoundLists b → SoundLists (plug_attempt b t bus stage)
  pub cut : (b : Board) (t : TypeId) (i : ℕ) (joined : Bool) → SoundLists b → SoundLists (cut_attempt b t i joined)
  -- a removal that is asked for, or refused by the guest; and a notice that is read
  pub asked_for : (b : Board) (id : List ℕ) → SoundDevices b → SoundLists (asked b id).board
  pub refused_by : (b : Board) (d : ℕ) → SoundLists b → SoundLists (refused b d)
  pub read : (b : Board) (notice : Notice) (others : List Notice) → b.notices ≡ notice ∷ others → SoundLists b → SoundLists (record b { notices = others })
  -- adding a device, taken or refused at any stage
  pub plugged : (b : Board) (a : Wanted) → SoundDevices b → SoundLists (plug b a).board
  -- a device that stands in a container and is detached: with all that is below it, it leaves the lists
  pub detached : (b : Board) (d : ℕ) → SoundDevices b → stands b d ≡ true → SoundLists (detach b d)
