-- For a law alone. What keeps the backends of a board sound: its rings, and what its devices claim.
use Rattle.std.specs.Prelude.{◌≡◌, ℕ, ◌≤◌, Bool, true, false, not, List, [], ◌∷◌, ◌++◌, length, map, filter, Some, Ok}
use Rattle.std.specs.List.{AllByRecursion, list_any}
use Rattle.std.specs.Str.{bytes_eq}
use Rattle.qo_values.specs.Registers.{Effect, body_write, Registers}
use Rattle.qo_values.specs.declared.kinds.Act.{Act}
use Rattle.qo_values.specs.declared.kinds.TypeId.{TypeId}
use Rattle.qo_model.specs.Board.{Board, Record, Ring, record_of}
use Rattle.qo_model.specs.ClockChanges.{clock_scaled, clock_set}
use Rattle.qo_model.specs.Clocks.{acted}
use Rattle.qo_model.specs.FinalNotesRuns.{Change, changed}
use Rattle.qo_model.specs.Hotplug.{asked, refused, reset_whole}
use Rattle.qo_model.specs.Objects.{with_attempt}
use Rattle.qo_model.specs.Opening.{opening_board}
use Rattle.qo_model.specs.Plug.{Wanted, claims_ring, cut_attempt, has_ring, plug, plug_attempt}
use Rattle.qo_model.specs.Reset.{after_hold, pulse, released}
use Rattle.qo_model.specs.Unplug.{detach}
use Rattle.qo_sound_clocks.specs.RegisterWrites.{registers_set}
use Rattle.qo_sound_devices.specs.SoundDevices.{SoundDevices}
use Rattle.qo_sound_devices.specs.SoundPlaces.{stands}
use Rattle.qo_sound_claims.specs.SoundBackends.{SoundBackends}
use Rattle.qo_sound_claims.specs.SoundRings.{IsGoodRing}
use Rattle.qo_values.specs.declared.kinds.ResetKind.{ResetKind}

-- a ring without its bytes
abbrev pub ring_frame : Ring → List ℕ × ℕ
ring_frame r = (r.id, r.size)

-- what keeps them sound, some of it where the board is sound as far as devices go
pub record ClaimsKeptLaw : Type 0 where
  -- they are sound on the opening board
  pub opening : SoundBackends opening_board
  -- what changes neither objects nor rings: as an attempt that was given up or cut, or a removal that is asked for or refused
  pub beside : (b c : Board) → c.records ≡ b.records → c.rings ≡ b.rings → SoundBackends b → SoundBackends c
  pub attempt : (b : Board) (t : TypeId) → SoundBackends b → SoundBackends (with_attempt b t)
  pub given_up : (b : Board) (t : TypeId) (bus stage : ℕ) → SoundBackends b → SoundBackends (plug_attempt b t bus stage)
  pub cut : (b : Board) (t : TypeId) (i : ℕ) (joined : Bool) → SoundBackends b → SoundBackends (cut_attempt b t i joined)
  pub asked_for : (b : Board) (id : List ℕ) → SoundBackends b → SoundBackends (asked b id).board
  pub refused_by : (b : Board) (d : ℕ) → SoundBackends b → SoundBackends (refused b d)
  -- a ring that is added, of a new id; one that is removed, which no realized UART names; and rings with other bytes, as many as they take
  pub ring_added : (b : Board) (r : Ring) → has_ring b r.id ≡ false → IsGoodRing r → SoundBackends b → SoundBackends (record b { rings = b.rings ++ r ∷ [] })
  pub ring_removed : (b : Board) (id : List ℕ) → list_any (claims_ring b id) b.records ≡ false → SoundBackends b
      → SoundBackends (record b { rings = filter (λ (r : Ring). not (bytes_eq r.id id)) b.rings })
  pub ring_filled : (b : Board) (rings : List Ring) → map ring_frame rings ≡ map ring_frame b.rings
      → AllByRecursion (λ (r : Ring). length r.bytes ≤ r.size) rings → SoundBackends b → SoundBackends (record b { rings = rings })
  -- registers that a guest's write to those of an object gave
  pub wrote : (b : Board) (n : ℕ) (r : Record) (s : Registers) (effect : Effect) (reg value : ℕ) (ring : Bool) (now period : ℕ) → record_of b n ≡ Some r
      → body_write r.registers reg value ring now period ≡ Some (s, effect) → SoundDevices b → SoundBackends b → SoundBackends (registers_set b n s)
  -- an act; a hold, a hold less, and both
  pub acts : (act : Act) (n period : ℕ) (b : Board) → SoundDevices b → SoundBackends b → SoundBackends (acted act n period b)
  pub held_so : (b : Board) (n : ℕ) (kind : ResetKind) → SoundDevices b → SoundBackends b → SoundBackends (after_hold b n kind)
  pub released_so : (b : Board) (n : ℕ) → SoundDevices b → SoundBackends b → SoundBackends (released b n)
  pub pulsed : (b : Board) (n : ℕ) (kind : ResetKind) → SoundDevices b → SoundBackends b → SoundBackends (pulse b n kind)
  -- a write of a clock's period, and of its mul and div, that is not refused
  pub set : (b d : Board) (c period : ℕ) → clock_set b c period ≡ Ok d → SoundDevices b → SoundBackends b → SoundBackends d
  pub scaled : (b d : Board) (c mul div : ℕ) → clock_scaled b c mul div ≡ Ok d → SoundDevices b → SoundBackends b → SoundBackends d
  -- each change by command on objects, and adding a device, taken or refused at any stage
  pub change : (b : Board) (change : Change) → SoundDevices b → SoundBackends b → SoundBackends (changed b change)
  pub plugged : (b : Board) (a : Wanted) → SoundDevices b → SoundBackends b → SoundBackends (plug b a).board
  -- a device that stands in a container and is detached with all that is below it, and the reset of the whole board
  pub detached : (b : Board) (d : ℕ) → SoundDevices b → stands b d ≡ true → SoundBackends b → SoundBackends (detach b d)
  pub reset : (b : Board) → SoundDevices b → SoundBackends b → SoundBackends (reset_whole b)
