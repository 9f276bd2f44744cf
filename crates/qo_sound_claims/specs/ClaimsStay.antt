-- For a law alone. What a change leaves of the claims of devices: who is realized, and what each claims by its slots and its registers.
use Rattle.std.specs.Prelude.{◌≡◌, ℕ, ◌+◌, ◌==◌, Bool, true, false, List, [], ◌∷◌, codes, Option, Some, None, option_map, Ok}
use Rattle.qo_values.specs.Registers.{Effect, body_write, Registers}
use Rattle.qo_values.specs.declared.kinds.Act.{Act}
use Rattle.qo_values.specs.declared.kinds.TypeId.{TypeId}
use Rattle.qo_values.specs.declared.kinds.TypeId.TheVariants.{MemDimm, MemoryBackend, SlotUart}
use Rattle.qo_values.specs.declared.codes.Code.{Code}
use Rattle.qo_values.specs.declared.ranges.Range.{Range}
use Rattle.qo_values.specs.declared.kinds.ResetKind.{ResetKind}
use Rattle.qo_model.specs.Board.{Board, Record, kind_of, record_of}
use Rattle.qo_model.specs.ClockChanges.{clock_scaled, clock_set}
use Rattle.qo_model.specs.Clocks.{acted}
use Rattle.qo_model.specs.Devices.{bus_of, bus_slot_of, is_realized, text_at}
use Rattle.qo_model.specs.FinalNotesRuns.{Change, changed}
use Rattle.qo_model.specs.Hotplug.{asked, reset_whole}
use Rattle.qo_model.specs.Objects.{Given}
use Rattle.qo_model.specs.Paths.{is_of}
use Rattle.qo_model.specs.Plug.{Wanted, backend_of, bus_for, plug, range_in, range_of, resources_of, target_for, text_for}
use Rattle.qo_model.specs.Reset.{after_hold, pulse, released}
use Rattle.qo_model.specs.Types.{TypeInfo, type_named}
use Rattle.qo_model.specs.Unplug.{detach}
use Rattle.qo_sound_clocks.specs.RegisterWrites.{registers_set}
use Rattle.qo_sound_devices.specs.SoundDevices.{SoundDevices}
use Rattle.qo_sound_devices.specs.SoundPlaces.{stands}
use Rattle.qo_sound_claims.specs.SoundBackends.{SoundBackends}

-- the ranges in the registers of an object that is there: a DIMM has one, and any other none
abbrev pub ranges_at : Board → ℕ → Option (List Range)
ranges_at b n = option_map (λ (r : Record). range_in r.registers) (record_of b n)

-- n was realized on b, and what it claims is on c as it was: its bus and its slot there, the ring that it names, of a DIMM its memory backend, and its range
pub record ClaimsAlike (b c : Board) (n : ℕ) : Type 0 where
  pub realized : is_realized b n ≡ true
  pub kind : kind_of c n ≡ kind_of b n
  pub bus : bus_of c n ≡ bus_of b n
  pub slot : bus_slot_of c n ≡ bus_slot_of b n
  pub ring : text_at c n (codes "chardev") ≡ text_at b n (codes "chardev")
  pub backend : is_of b (codes "mem-dimm") n ≡ true → backend_of c n ≡ backend_of b n
  pub range : ranges_at c n ≡ ranges_at b n

-- who is realized after a change was so before it, and claims the same
abbrev pub ClaimsStay : Board → Board → Type 0
ClaimsStay b c = (n : ℕ) → is_realized c n ≡ true → ClaimsAlike b c n

-- and who was realized before it is so after it
pub record ClaimsKeep (b c : Board) : Type 0 where
  pub stay : ClaimsStay b c
  pub same : (n : ℕ) → is_realized c n ≡ is_realized b n

-- a device n on c claims what it was given on b: its slot on the bus, of a UART the ring that is named, and of a DIMM the memory backend and the range
pub record ClaimsGiven (b : Board) (t : TypeId) (bus : ℕ) (props : List Given) (c : Board) (n : ℕ) : Type 0 where
  pub realized : is_realized c n ≡ true
  pub kind : kind_of c n ≡ Some t
  pub on : bus_of c n ≡ Some bus
  pub slot : bus_slot_of c n ≡ Some (resources_of b t bus props).slot
  pub ring : t ≡ SlotUart → text_at c n (codes "chardev") ≡ Some (text_for props (codes "chardev"))
  pub backend : t ≡ MemDimm → backend_of c n ≡ target_for b MemoryBackend props (codes "memdev")
  pub range : t ≡ MemDimm → ranges_at c n ≡ option_map (λ (g : Range). g ∷ []) (range_of b t props)

-- a device was added: it claims what it was given, and as to others the same are realized, and claim the same
pub record ClaimsAdded (b : Board) (a : Wanted) (c : Board) : Type 0 where
  pub given : (t : TypeId) (bus : ℕ) → option_map (λ (row : TypeInfo). row.id) (type_named a.driver) ≡ Some t → bus_for b t a.bus ≡ Some bus
      → ClaimsGiven b t bus a.props c (b.born + 1)
  pub stay : (n : ℕ) → (n == (b.born + 1)) ≡ false → is_realized c n ≡ true → ClaimsAlike b c n
  pub same : (n : ℕ) → (n == (b.born + 1)) ≡ false → is_realized c n ≡ is_realized b n

-- on boards that are sound as far as devices go
pub record ClaimsStayLaw : Type 0 where
  -- what changes no object, as attempts that were given up or cut, removals that are refused, rings, events and time; and a removal that is asked for
  pub beside : (b c : Board) → c.records ≡ b.records → ClaimsKeep b c
  pub asked_for : (b : Board) (id : List ℕ) → ClaimsKeep b (asked b id).board
  -- registers that a guest's write to those of an object gave
  pub wrote : (b : Board) (n : ℕ) (r : Record) (s : Registers) (effect : Effect) (reg value : ℕ) (ring : Bool) (now period : ℕ) → record_of b n ≡ Some r
      → body_write r.registers reg value ring now period ≡ Some (s, effect) → SoundDevices b → ClaimsKeep b (registers_set b n s)
  -- an act; a hold, a hold less, and both
  pub acts : (act : Act) (n period : ℕ) (b : Board) → SoundDevices b → ClaimsKeep b (acted act n period b)
  pub held_so : (b : Board) (n : ℕ) (kind : ResetKind) → SoundDevices b → ClaimsKeep b (after_hold b n kind)
  pub released_so : (b : Board) (n : ℕ) → SoundDevices b → ClaimsKeep b (released b n)
  pub pulsed : (b : Board) (n : ℕ) (kind : ResetKind) → SoundDevices b → ClaimsKeep b (pulse b n kind)
  -- a write of a clock's period, and of its mul and div, that is not refused
  pub set : (b d : Board) (c period : ℕ) → clock_set b c period ≡ Ok d → SoundDevices b → ClaimsKeep b d
  pub scaled : (b d : Board) (c mul div : ℕ) → clock_scaled b c mul div ≡ Ok d → SoundDevices b → ClaimsKeep b d
  -- each change by command on objects
  pub change : (b : Board) (change : Change) → SoundDevices b → ClaimsKeep b (changed b change)
  -- adding a device, refused at any stage, and taken
  pub refused : (b : Board) (a : Wanted) (refusal : ℕ × Code) → (plug b a).refusal ≡ Some refusal → ClaimsKeep b (plug b a).board
  pub added : (b : Board) (a : Wanted) → SoundDevices b → SoundBackends b → (plug b a).refusal ≡ None → ClaimsAdded b a (plug b a).board
  -- a device that stands in a container and is detached with all that is below it, and the reset of the whole board
  pub detached : (b : Board) (d : ℕ) → SoundDevices b → stands b d ≡ true → SoundBackends b → ClaimsStay b (detach b d)
  pub reset : (b : Board) → SoundDevices b → SoundBackends b → ClaimsStay b (reset_whole b)
