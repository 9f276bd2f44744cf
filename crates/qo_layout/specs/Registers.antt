-- What interrupt lines hang on: the registers of a board's objects, as a guest reads them (docs/PROFILE.md, device registers).
use Rattle.std.specs.Prelude.{ℕ, ◌/◌, ◌%◌, Bool, ◌&&◌, not, ◌==◌, is_some, unwrap_or, IfSome}
use Rattle.std.specs.Option.{option_map_or}
use Rattle.qo_values.specs.Registers.{Registers, bare, body_read}
use Rattle.qo_model.specs.Board.{Board, Record, record_of}
use Rattle.qo_model.specs.Clocks.{device_period}
use Rattle.qo_buses.specs.Rings.{claimed_ring}
use Rattle.qo_heap.specs.Objects.{Objects, content_of}
use Rattle.qo_kinds.specs.Bodies.{IsTimely}

-- the registers of the object of a birth; none where it is not there
abbrev pub registers_at : Board → ℕ → Registers
registers_at b o = option_map_or (λ (r : Record). r.registers) (record_of b o) bare

-- what a register reads; 0 where it is absent
abbrev pub register : Board → ℕ → ℕ → ℕ
register b o reg = unwrap_or (body_read (registers_at b o) reg (is_some (claimed_ring b o)) b.now (device_period b o)) 0

-- a UART asks for attention where STATUS has bit 2 and SCRATCH is not 0; a timer where CTRL is 1 and COUNT is 0
abbrev pub uart_asks : Board → ℕ → Bool
uart_asks b d = (register b d 2 / 4 % 2 == 1) && not (register b d 3 == 0)

abbrev pub timer_asks : Board → ℕ → Bool
timer_asks b d = (register b d 0 == 1) && (register b d 2 == 0)

-- a bridge hides the lines behind it where CTRL is not 0
abbrev pub is_hidden : Board → ℕ → Bool
is_hidden b d = not (register b d 0 == 0)

-- no timer of a heap is ahead of its time
abbrev pub AreTimely : Objects → Type 0
AreTimely v = (n : ℕ) → IfSome (content_of v n) (λ c. IsTimely v.time c.body)
