-- For a law alone. What keeps the plain values of a board such as are told as they are.
use Rattle.std.specs.Prelude.{◌≡◌, ℕ, ◌<◌, ◌^◌, Bool, List, Ok}
use Rattle.qo_values.specs.Registers.{Registers}
use Rattle.qo_values.specs.declared.kinds.Act.{Act}
use Rattle.qo_values.specs.declared.kinds.ResetKind.{ResetKind}
use Rattle.qo_values.specs.declared.kinds.TypeId.{TypeId}
use Rattle.qo_model.specs.Board.{Board}
use Rattle.qo_model.specs.ClockChanges.{clock_scaled, clock_set}
use Rattle.qo_model.specs.Clocks.{acted}
use Rattle.qo_model.specs.FinalNotesRuns.{Change, changed}
use Rattle.qo_model.specs.Hotplug.{asked, refused, reset_whole}
use Rattle.qo_model.specs.Objects.{with_attempt}
use Rattle.qo_model.specs.Opening.{opening_board}
use Rattle.qo_model.specs.Plug.{Wanted, cut_attempt, plug, plug_attempt}
use Rattle.qo_model.specs.References.{refs}
use Rattle.qo_model.specs.Release.{finalize, let_go, unpin}
use Rattle.qo_model.specs.Reset.{after_hold, pulse, released}
use Rattle.qo_model.specs.Unplug.{detach}
use Rattle.qo_sound_clocks.specs.RegisterWrites.{registers_set}
use Rattle.qo_sound_order.specs.SoundValues.{AllTold, SoundValues, TellsTold}

-- on every board
pub record ValuesKeptLaw : Type 0 where
  -- they are so on the opening board
  pub opening : SoundValues opening_board
  -- what changes none of the objects: as a notice that is read, rings, or time that goes on
  pub beside : (b c : Board) → c.records ≡ b.records → SoundValues b → SoundValues c
  -- the release of an object that nothing refers to; a slot that is let go; a pin that ends
  pub finalized : (b : Board) (n : ℕ) → refs b n ≡ 0 → SoundValues b → SoundValues (finalize b n)
  pub slot_let_go : (b : Board) (owner i : ℕ) → SoundValues b → SoundValues (let_go b owner i)
  pub unpinned : (b : Board) (n : ℕ) → SoundValues b → SoundValues (unpin b n)
  -- an attempt that was given up or cut; a removal that is asked for or refused
  pub attempt : (b : Board) (t : TypeId) → SoundValues b → SoundValues (with_attempt b t)
  pub given_up : (b : Board) (t : TypeId) (bus stage : ℕ) → SoundValues b → SoundValues (plug_attempt b t bus stage)
  pub cut : (b : Board) (t : TypeId) (i : ℕ) (joined : Bool) → SoundValues b → SoundValues (cut_attempt b t i joined)
  pub asked_for : (b : Board) (id : List ℕ) → SoundValues b → SoundValues (asked b id).board
  pub refused_by : (b : Board) (d : ℕ) → SoundValues b → SoundValues (refused b d)
  -- an act; a hold, a hold less, and both
  pub acts : (act : Act) (n period : ℕ) (b : Board) → SoundValues b → SoundValues (acted act n period b)
  pub held_so : (b : Board) (n : ℕ) (kind : ResetKind) → SoundValues b → SoundValues (after_hold b n kind)
  pub released_so : (b : Board) (n : ℕ) → SoundValues b → SoundValues (released b n)
  pub pulsed : (b : Board) (n : ℕ) (kind : ResetKind) → SoundValues b → SoundValues (pulse b n kind)
  -- a write of a clock's period, and of its mul and div, with numbers of 64 bits, that is not refused; other registers of an object, whatever they are
  pub set : (b d : Board) (c period : ℕ) → period < 2 ^ 64 → clock_set b c period ≡ Ok d → SoundValues b → SoundValues d
  pub scaled : (b d : Board) (c mul div : ℕ) → mul < 2 ^ 64 → div < 2 ^ 64 → clock_scaled b c mul div ≡ Ok d → SoundValues b → SoundValues d
  pub registers : (b : Board) (n : ℕ) (registers : Registers) → SoundValues b → SoundValues (registers_set b n registers)
  -- each change by command on objects, and adding a device, taken or refused at any stage, where the values that are given are told as they are
  pub change : (b : Board) (change : Change) → TellsTold change → SoundValues b → SoundValues (changed b change)
  pub plugged : (b : Board) (a : Wanted) → AllTold a.props → SoundValues b → SoundValues (plug b a).board
  -- a device that is detached with all that is below it, and the reset of the whole board
  pub detached : (b : Board) (d : ℕ) → SoundValues b → SoundValues (detach b d)
  pub reset : (b : Board) → SoundValues b → SoundValues (reset_whole b)
