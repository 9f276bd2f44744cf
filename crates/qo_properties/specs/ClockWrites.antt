-- For proofs alone. What is written to the clocks of the board.
use Rattle.std.specs.Prelude.{ℕ, Result, Ok, Err}
use Rattle.qo_values.specs.declared.codes.Code.{Code}
use Rattle.qo_slots.specs.declared.keys.Key.{Key}
use Rattle.qo_model.specs.declared.properties.Property.{Property}
use Rattle.qo_clocks.specs.declared.errors.ClockError.{ClockError}
use Rattle.qo_clocks.specs.Writes.{code_of}
use Rattle.qo_properties.specs.declared.refusals.Refusal.{Refusal}
use Rattle.qo_properties.specs.declared.refusals.Refusal.TheVariants.{Refused}

-- a property that is answered, with the birth of the object that has it, or the code
abbrev pub property_told : Result (Key × Property) Code → Result (ℕ × Property) Code
property_told (Ok p) = Ok (p.0.birth, p.1)
property_told (Err code) = Err code

-- the answer of a write of a clock, with the code of what refused it
abbrev pub refused_as : {T : Type 0} → Result T ClockError → Result T Refusal
refused_as (Ok done) = Ok done
refused_as (Err e) = Err (Refused (code_of e))
