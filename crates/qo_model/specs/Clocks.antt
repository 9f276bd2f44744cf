-- The clock tree: periods, and who is called back where one changes (docs/devel/clocks.rst, "The clock state", "Clock callbacks", "Connecting two clocks
-- together", "Clock multiplier and divider settings", "Changing a clock period").
use Rattle.std.specs.Prelude.{◌≢◌, ◌<◌, ℕ, ◌*◌, ◌/◌, ◌^◌, Bool, true, false, ◌==◌, nat_le, if◌then◌else◌, List, [], ◌∷◌, ◌++◌, filter, codes, Option, Some, None, option_map, option_and_then, unwrap_or, Result, Ok, Err}
use Rattle.std.specs.List.{list_any, flat_map}
use Rattle.std.specs.Option.{option_map_or}
use Rattle.qo_values.specs.Registers.{body_act}
use Rattle.qo_values.specs.declared.codes.Code.{Code}
use Rattle.qo_values.specs.declared.codes.Code.TheVariants.{E47}
use Rattle.qo_values.specs.declared.kinds.Act.{Act}
use Rattle.qo_values.specs.declared.kinds.Act.TheVariants.{Pre, Update}
use Rattle.qo_model.specs.declared.notes.Deed.TheVariants.{Did}
use Rattle.qo_model.specs.Board.{Board, Record, Slot, weak, slot_named}
use Rattle.qo_model.specs.Depth.{by_objects}
use Rattle.qo_model.specs.Devices.{clock_of, number_at}
use Rattle.qo_model.specs.Paths.{births, parent_of}
use Rattle.qo_model.specs.Release.{edit}

-- the source of a clock
abbrev pub weak_in : Slot → Option ℕ
weak_in (weak t target) = target
weak_in s = None

abbrev pub source_of : Board → ℕ → Option ℕ
source_of b c = option_and_then weak_in (slot_named b c (codes "source"))

-- its own numbers
abbrev pub own_period : Board → ℕ → ℕ
own_period b c = unwrap_or (number_at b c (codes "period")) 0

abbrev pub mul_of : Board → ℕ → ℕ
mul_of b c = unwrap_or (number_at b c (codes "mul")) 1

abbrev pub div_of : Board → ℕ → ℕ
div_of b c = unwrap_or (number_at b c (codes "div")) 1

-- a period times mul by div, rounded down; by a div of 0 a clock stands still
abbrev pub scaled_by : ℕ → ℕ → ℕ → ℕ
scaled_by mul div period = if div == 0 then 0 else period * mul / div

-- a period as the clocks below have it: by a clock's mul and div
abbrev pub scaled : Board → ℕ → ℕ → ℕ
scaled b c period = scaled_by (mul_of b c) (div_of b c) period

-- the period of a clock: its own, or by its source's
abbrev pub period_turn : Board → (ℕ → ℕ) → ℕ → ℕ
period_turn b f c = elim (source_of b c) [ None ↦ own_period b c | Some s ↦ scaled b s (f s) ]

unfoldable pub period : Board → ℕ → ℕ
period b c = by_objects (period_turn b) (λ _. 0) (births b) c

-- that of a clock with a source
abbrev pub derived_period : Board → ℕ → Option ℕ
derived_period b c = option_map (λ s. period b c) (source_of b c)

abbrev pub child_period : Board → ℕ → ℕ
child_period b c = scaled b c (period b c)

-- each clock's child period fits in 64 bits, and no div is 0
pub record ClocksFit (b : Board) : Type 0 where
  pub fits : (c : ℕ) → child_period b c < 2 ^ 64
  pub divides : (c : ℕ) → div_of b c ≢ 0

-- the period of the clock of a device; 0 where it has none
abbrev pub device_period : Board → ℕ → ℕ
device_period b d = option_map_or (period b) (clock_of b d) 0

-- the clocks whose source this is, in order of births; all clocks below it, in preorder
abbrev pub is_source : Board → ℕ → ℕ → Bool
is_source b c n = option_map_or (λ s. s == c) (source_of b n) false

abbrev pub fed_by : Board → ℕ → List ℕ
fed_by b c = filter (is_source b c) (births b)

abbrev pub fed_turn : Board → (ℕ → List ℕ) → ℕ → List ℕ
fed_turn b f c = flat_map (λ n. n ∷ f n) (fed_by b c)

unfoldable pub clocks_below : Board → ℕ → List ℕ
clocks_below b c = by_objects (fed_turn b) (λ _. []) (births b) c

-- an act on an object at the board's time: its registers and its note
abbrev pub with_act_on : Act → ℕ → ℕ → Record → Record
with_act_on act now period r = record r { registers = body_act act now period r.registers }

unfoldable pub acted : Act → ℕ → ℕ → Board → Board
acted act n period b =
    record (edit n (with_act_on act b.now period) b) { notes = b.notes ++ record { birth = n; deed = Did act } ∷ [] }

-- the device of a clock below is called back, where the period of the clock differs between two boards
abbrev pub called : Board → Board → Board → ℕ → Board
called old new b c =
    elim (period old c == period new c) [
      | true ↦ b
      | false ↦ elim (parent_of new c) [ None ↦ b | Some d ↦ acted Update d (period new c) (acted Pre d (period old c) b) ]
    ]

abbrev pub called_all : Board → Board → List ℕ → Board → Board
called_all old new [] b = b
called_all old new (c ∷ cs) b = called_all old new cs (called old new b c)

-- a clock was written: those below it are called back in order
abbrev pub spread : Board → Board → ℕ → Board
spread old new c = called_all old new (clocks_below old c) new

-- whether a clock's child period fits in 64 bits
abbrev pub overflows : Board → ℕ → Bool
overflows b c = nat_le (2 ^ 64) (child_period b c)

-- a clock's own period, and its mul or div, are written: this is the board with the number set
abbrev pub clock_written : Board → Board → ℕ → Result Board Code
clock_written old new c = if list_any (overflows new) (c ∷ clocks_below old c) then Err E47 else Ok (spread old new c)

-- a period, in units of 2^-32 ns, of a frequency
abbrev pub of_hz : ℕ → ℕ
of_hz hz = if hz == 0 then 0 else 4294967296000000000 / hz
