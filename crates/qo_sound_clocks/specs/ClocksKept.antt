-- For a law alone. What keeps the clocks of a board sound.
use Rattle.std.specs.Prelude.{◌≡◌, ℕ, Bool, List, Ok}
use Rattle.qo_values.specs.declared.kinds.Act.{Act}
use Rattle.qo_values.specs.declared.kinds.TypeId.{TypeId}
use Rattle.qo_model.specs.Board.{Board}
use Rattle.qo_model.specs.ClockChanges.{clock_scaled, clock_set}
use Rattle.qo_model.specs.Clocks.{acted}
use Rattle.qo_model.specs.FinalNotesRuns.{Change, changed}
use Rattle.qo_model.specs.Hotplug.{asked, refused, reset_whole}
use Rattle.qo_model.specs.Objects.{with_attempt}
use Rattle.qo_model.specs.Opening.{opening_board}
use Rattle.qo_model.specs.Plug.{Wanted, cut_attempt, plug, plug_attempt}
use Rattle.qo_model.specs.Reset.{after_hold, pulse, released}
use Rattle.qo_model.specs.Unplug.{detach}
use Rattle.qo_sound.specs.TreeKept.{SoundTree}
use Rattle.qo_sound_clocks.specs.SoundClocks.{SoundClocks}
use Rattle.qo_values.specs.declared.kinds.ResetKind.{ResetKind}

-- what keeps the clocks sound, some of it where the tree is sound
pub record ClocksKeptLaw : Type 0 where
  -- they are sound on the opening board
  pub opening : SoundClocks opening_board
  -- what changes none of the objects: as an attempt that was given up or cut, or a removal that is asked for or refused
  pub beside : (b c : Board) → c.records ≡ b.records → SoundClocks b → SoundClocks c
  pub attempt : (b : Board) (t : TypeId) → SoundClocks b → SoundClocks (with_attempt b t)
  pub given_up : (b : Board) (t : TypeId) (bus stage : ℕ) → SoundClocks b → SoundClocks (plug_attempt b t bus stage)
  pub cut : (b : Board) (t : TypeId) (i : ℕ) (joined : Bool) → SoundClocks b → SoundClocks (cut_attempt b t i joined)
  pub asked_for : (b : Board) (id : List ℕ) → SoundClocks b → SoundClocks (asked b id).board
  pub refused_by : (b : Board) (d : ℕ) → SoundClocks b → SoundClocks (refused b d)
  -- an act; a hold, a hold less, and both
  pub acts : (act : Act) (n period : ℕ) (b : Board) → SoundClocks b → SoundClocks (acted act n period b)
  pub held_so : (b : Board) (n : ℕ) (kind : ResetKind) → SoundClocks b → SoundClocks (after_hold b n kind)
  pub released_so : (b : Board) (n : ℕ) → SoundClocks b → SoundClocks (released b n)
  pub pulsed : (b : Board) (n : ℕ) (kind : ResetKind) → SoundClocks b → SoundClocks (pulse b n kind)
  -- a write of a clock's period, and of its mul and div, that is not refused
  pub set : (b d : Board) (c period : ℕ) → clock_set b c period ≡ Ok d → SoundClocks b → SoundClocks d
  pub scaled : (b d : Board) (c mul div : ℕ) → clock_scaled b c mul div ≡ Ok d → SoundClocks b → SoundClocks d
  -- each change by command on objects, and adding a device, taken or refused at any stage
  pub change : (b : Board) (change : Change) → SoundTree b → SoundClocks b → SoundClocks (changed b change)
  pub plugged : (b : Board) (a : Wanted) → SoundTree b → SoundClocks b → SoundClocks (plug b a).board
  -- a device that is detached with all that is below it, and the reset of the whole board
  pub detached : (b : Board) (d : ℕ) → SoundTree b → SoundClocks b → SoundClocks (detach b d)
  pub reset : (b : Board) → SoundTree b → SoundClocks b → SoundClocks (reset_whole b)
