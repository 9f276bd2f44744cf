-- For a law alone. The changes of a board, as what they relate a board to; and that each of them is a run of steps.
use Rattle.std.specs.Prelude.{◌≡◌, ℕ, Bool, List, [], ◌∷◌, Ok}
use Rattle.std.specs.Bool.{⊤}
use Rattle.std.specs.Option.{option_map_or}
use Rattle.qo_values.specs.declared.kinds.TypeId.{TypeId}
use Rattle.qo_values.specs.declared.kinds.ResetKind.{ResetKind}
use Rattle.qo_model.specs.Board.{Board}
use Rattle.qo_model.specs.ClockChanges.{clock_scaled, clock_set}
use Rattle.qo_model.specs.FinalNotesRuns.{Change, added, changed}
use Rattle.qo_model.specs.Hotplug.{asked, refused, reset_whole}
use Rattle.qo_model.specs.Objects.{with_attempt}
use Rattle.qo_model.specs.Plug.{Wanted, cut_attempt, plug, plug_attempt, types_in}
use Rattle.qo_model.specs.References.{refs}
use Rattle.qo_model.specs.Release.{finalize, let_go, unpin}
use Rattle.qo_model.specs.Reset.{after_hold, pulse, released}
use Rattle.qo_model.specs.Types.{TypeInfo, type_named}
use Rattle.qo_model.specs.Unplug.{detach}
use Rattle.qo_sound_devices.specs.SoundDevices.{SoundDevices}
use Rattle.qo_steps.specs.Steps.{IsThere, Run}

-- the types of the objects of a device of a type's name, and of the object that a command makes
abbrev pub types_of : List ℕ → List TypeId
types_of driver = option_map_or (λ (row : TypeInfo). types_in row.id) (type_named driver) []

abbrev pub types_made : Change → List TypeId
types_made (added driver id props) = option_map_or (λ (row : TypeInfo). row.id ∷ []) (type_named driver) []
types_made change = []

-- each change of a board leads from the board to one that R relates it to, by the types of the objects that it makes. Where objects act the board is `Good`
-- before, and the object that is named is `On`
pub record ChangesOf (Good : Board → Type 0) (On : Board → ℕ → Type 0) (R : List TypeId → Board → Board → Type 0) : Type 0 where
  -- the release of an object that nothing refers to; a slot that is let go; a pin that ends
  pub finalized : (b : Board) (n : ℕ) → refs b n ≡ 0 → R [] b (finalize b n)
  pub slot_let_go : (b : Board) (owner i : ℕ) → R [] b (let_go b owner i)
  pub unpinned : (b : Board) (n : ℕ) → R [] b (unpin b n)
  -- an attempt that was given up or cut; a removal that is asked for or refused
  pub attempt : (b : Board) (t : TypeId) → R [] b (with_attempt b t)
  pub given_up : (b : Board) (t : TypeId) (bus stage : ℕ) → R [] b (plug_attempt b t bus stage)
  pub cut : (b : Board) (t : TypeId) (i : ℕ) (joined : Bool) → R [] b (cut_attempt b t i joined)
  pub asked_for : (b : Board) (id : List ℕ) → R [] b (asked b id).board
  pub refused_by : (b : Board) (d : ℕ) → R [] b (refused b d)
  -- a hold, a hold less, and both
  pub held_so : (b : Board) (n : ℕ) (kind : ResetKind) → Good b → On b n → R [] b (after_hold b n kind)
  pub released_so : (b : Board) (n : ℕ) → Good b → On b n → R [] b (released b n)
  pub pulsed : (b : Board) (n : ℕ) (kind : ResetKind) → Good b → On b n → R [] b (pulse b n kind)
  -- a write of a clock's period, and of its mul and div, that is not refused
  pub set : (b d : Board) (c period : ℕ) → clock_set b c period ≡ Ok d → R [] b d
  pub scaled : (b d : Board) (c mul div : ℕ) → clock_scaled b c mul div ≡ Ok d → R [] b d
  -- each change by command on objects, and adding a device, taken or refused at any stage
  pub change : (b : Board) (change : Change) → R (types_made change) b (changed b change)
  pub plugged : (b : Board) (a : Wanted) → Good b → R (types_of a.driver) b (plug b a).board
  -- a device that is detached with all that is below it, and the reset of the whole board
  pub detached : (b : Board) (d : ℕ) → Good b → On b d → R [] b (detach b d)
  pub reset : (b : Board) → Good b → R [] b (reset_whole b)

-- the same of any board and any object
abbrev pub Changes : (List TypeId → Board → Board → Type 0) → Type 0
Changes R = ChangesOf (λ b. ⊤) (λ b n. ⊤) R

-- each change of a board is a run of steps; on a board that is sound as far as devices go each act is of an object that is there
pub record RunsLaw : Type 0 where
  pub any : Changes (λ types. Run types (λ c n. ⊤))
  pub sound : ChangesOf SoundDevices IsThere (λ types. Run types IsThere)
