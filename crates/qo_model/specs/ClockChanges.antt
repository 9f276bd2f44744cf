-- The changes of a clock's numbers (docs/devel/clocks.rst, "Changing a clock period" and "Clock multiplier and divider settings"): each is refused or decided
-- before anything is written.
use Rattle.std.specs.Prelude.{ℕ, ◌==◌, is_some, if◌then◌else◌, codes, Result, Err}
use Rattle.qo_values.specs.declared.codes.Code.{Code}
use Rattle.qo_values.specs.declared.codes.Code.TheVariants.{E45, E46}
use Rattle.qo_values.specs.declared.properties.Val.TheVariants as val
use Rattle.qo_model.specs.Board.{Board}
use Rattle.qo_model.specs.Clocks.{clock_written, source_of}
use Rattle.qo_model.specs.Unplug.{set_named}

-- a clock is given a period, in units of 2^-32 ns; one that goes by another keeps to that
abbrev pub clock_set : Board → ℕ → ℕ → Result Board Code
clock_set b c period = if is_some (source_of b c) then Err E45 else clock_written b (set_named c (codes "period") (val.Uint period) b) c

-- a clock is given by what it multiplies and then divides its period for the clocks that go by it
abbrev pub clock_scaled : Board → ℕ → ℕ → ℕ → Result Board Code
clock_scaled b c mul div =
    if div == 0 then Err E46
    else clock_written b (set_named c (codes "div") (val.Uint div) (set_named c (codes "mul") (val.Uint mul) b)) c
