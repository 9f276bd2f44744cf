-- For proofs alone. The writes of a clock's numbers.
use Rattle.std.specs.Prelude.{◌≡◌, ℕ, Bool, true, false, if◌then◌else◌, List, codes, Option, None, Some, option_and_then, Result, Ok, Err}
use Rattle.std.specs.Option.{option_map_or}
use Rattle.qo_values.specs.declared.codes.Code.{Code}
use Rattle.qo_values.specs.declared.codes.Code.TheVariants.{E45, E46, E47}
use Rattle.qo_values.specs.declared.properties.Val.TheVariants as val
use Rattle.qo_model.specs.Board.{Board}
use Rattle.qo_object.specs.declared.slots.Slot.{Slot}
use Rattle.qo_object.specs.declared.slots.Slot.TheVariants.{Plain}
use Rattle.qo_object.specs.Slots.{with_val}
use Rattle.qo_heap.specs.Board.{Shows}
use Rattle.qo_heap.specs.Objects.{Objects}
use Rattle.qo_clocks.specs.declared.errors.ClockError.{ClockError}
use Rattle.qo_clocks.specs.declared.errors.ClockError.TheVariants.{HasSource, DividerZero, Overflow}
use Rattle.qo_clocks.specs.Overflows.{overflows_on}
use Rattle.qo_clocks.specs.Links.{changed_named}
use Rattle.qo_clocks.specs.Reads.{slot_on}

-- what the slot of a name reads once a number is written there: the number where it is plain, else what is read where none is
abbrev pub is_plain : Slot → Bool
is_plain (Plain v) = true
is_plain s = false

abbrev pub written_on : Objects → ℕ → List ℕ → ℕ → ℕ → ℕ
written_on v n name number none = if option_map_or is_plain (slot_on v n name) false then number else none

-- a period of those that go by a clock, if it fits and those of all below fit with it
abbrev pub fits_below : Objects → ℕ → ℕ → ℕ → Option ℕ
fits_below v levels c period = if overflows_on v levels c period then None else Some period

abbrev pub all_fit : Objects → ℕ → ℕ → Option ℕ → Option ℕ
all_fit v levels c period = option_and_then (fits_below v levels c) period

-- the heap with a clock's period written, and with its mul and div
abbrev pub with_period : ℕ → ℕ → Objects → Objects
with_period c period v = changed_named c (codes "period") (with_val (val.Uint period)) v

abbrev pub with_scale : ℕ → ℕ → ℕ → Objects → Objects
with_scale c mul div v = changed_named c (codes "div") (with_val (val.Uint div)) (changed_named c (codes "mul") (with_val (val.Uint mul)) v)

-- what an error is to the definitions
abbrev pub code_of : ClockError → Code
code_of HasSource = E45
code_of DividerZero = E46
code_of Overflow = E47

-- a call's answer is a definition's: it shows the board, or has its code
abbrev pub Answers : {A : Type 0} → Objects → Result A ClockError → Result Board Code → Type 0
Answers v (Ok done) (Ok b) = Shows b v
Answers v (Err e) (Err code) = code_of e ≡ code
Answers v result (Ok b) = ⊥
Answers v result (Err code) = ⊥
