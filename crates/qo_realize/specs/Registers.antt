-- The registers of devices, as the guest reads and writes them (docs/PROFILE.md, guest lines and device registers).
use Rattle.std.specs.Prelude.{◌≡◌, ℕ, List, Option, None, Some, is_some, option_map}
use Rattle.std.specs.Option.{option_map_or}
use Rattle.qo_values.specs.Registers.{Effect, body_read, body_write, Registers, bare}
use Rattle.qo_values.specs.Registers as effect
use Rattle.qo_values.specs.Rings.{ring_push}
use Rattle.qo_values.specs.declared.kinds.ResetKind.TheVariants.{Cold}
use Rattle.qo_model.specs.Board.{Board, Record, Ring, record_of}
use Rattle.qo_model.specs.Clocks.{device_period}
use Rattle.qo_model.specs.Devices.{first_bus}
use Rattle.qo_model.specs.Reset.{pulse}
use Rattle.qo_heap.specs.Board.{Shows}
use Rattle.qo_heap.specs.Objects.{Objects}
use Rattle.qo_kinds.specs.Effects.{shown_effect}
use Rattle.qo_kinds.specs.declared.effects.Effect as told
use Rattle.qo_buses.specs.Rings.{claimed_ring}
use Rattle.qo_reset.specs.Phases.{Holds}
use Rattle.qo_chardev.specs.Rings.{ring_changed}
use Rattle.qo_sound_clocks.specs.RegisterWrites.{registers_set}
use Rattle.qo_realize.specs.Chardevs.{with_rings}
use Rattle.qo_realize.specs.Parts.{Parts}
use Rattle.qo_realize.specs.Representation.{Stands}

-- the registers of the object of a birth; none where it is not there
abbrev pub registers_at : Board → ℕ → Registers
registers_at b n = option_map_or (λ (r : Record). r.registers) (record_of b n) bare

-- what a register of a device reads; none where it is absent
abbrev pub guest_read : Board → ℕ → ℕ → Option ℕ
guest_read b d reg = body_read (registers_at b d) reg (is_some (claimed_ring b d)) b.now (device_period b d)

-- the registers of a device after a write to one, with what the write does beside; none where the register is absent
abbrev pub registers_written : Board → ℕ → ℕ → ℕ → Option (Registers × Effect)
registers_written b d reg value = body_write (registers_at b d) reg value (is_some (claimed_ring b d)) b.now (device_period b d)

-- a byte goes after those of a ring
abbrev pub pushed : ℕ → Board → List ℕ → Board
pushed n b id = with_rings (ring_changed (λ m. ring_push m n) id b.rings) b

-- the board after what a write does beside the registers: the first bus of the device goes through a cold pulse; a byte goes to the ring that it has claimed
abbrev pub after_effect : ℕ → Effect → Board → Board
after_effect d effect.nothing b = b
after_effect d effect.pulse b = option_map_or (λ m. pulse b m Cold) (first_bus b d) b
after_effect d (effect.byte n) b = option_map_or (pushed n b) (claimed_ring b d) b

-- the board after a write to a register of a device; none where the register is absent
abbrev pub guest_written : Board → ℕ → ℕ → ℕ → Option Board
guest_written b d reg value =
    option_map (λ (w : Registers × Effect). after_effect d w.1 (registers_set b d w.0)) (registers_written b d reg value)

-- registers were written as is defined, with what is done beside: a heap shows the board then; or the register is absent
abbrev pub HasWritten : Board → ℕ → Option (Registers × Effect) → Option told.Effect → Objects → Type 0
HasWritten b d defined (Some e) v = (r : Registers) × (defined ≡ Some (r, shown_effect e)) × Shows (registers_set b d r) v
HasWritten b d defined None v = defined ≡ None

-- a heap, holds and rings are those of a board
pub record IsHeld (b : Board) (holds : List ℕ) (rings : List Ring) (v : Objects) : Type 0 where
  pub held : Holds b holds v
  pub rings_are : b.rings ≡ rings

-- the write was made: a heap, holds and rings are those of its board; or the register is absent
abbrev pub Written : Option Board → Option (Unit {0}) → List ℕ → List Ring → Objects → Type 0
Written defined (Some done) holds rings v = (b : Board) × (defined ≡ Some b) × IsHeld b holds rings v
Written defined None holds rings v = defined ≡ None

-- and the same of the whole board
abbrev pub GuestWrites : Option Board → Option (Unit {0}) → Parts → Type 0
GuestWrites defined (Some done) p = (b : Board) × (defined ≡ Some b) × Stands b p
GuestWrites defined None p = defined ≡ None
