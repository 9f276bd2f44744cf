-- For proofs alone. What rebuilding answers and leaves.
use Rattle.std.specs.Prelude.{◌≡◌, Option, Some, None, Result, Ok, Err, ⊤}
use Rattle.qo_values.specs.declared.codes.Code.{Code}
use Rattle.qo_model.specs.Board.{Board}
use Rattle.qo_properties.specs.declared.refusals.Refusal.{Refusal}
use Rattle.qo_properties.specs.declared.refusals.Refusal.TheVariants as refusal
use Rattle.qo_shape.specs.declared.errors.ShapeError.{ShapeError}
use Rattle.qo_shape.specs.declared.errors.ShapeError.TheVariants as shape
use Rattle.qo_realize.specs.Parts.{Parts}
use Rattle.qo_realize.specs.Representation.{Stands}
use Rattle.qo_rebuild.specs.declared.errors.SaveError.{SaveError}
use Rattle.qo_rebuild.specs.declared.errors.SaveError.TheVariants.{Memory, Refused, Shape}

-- a call of the board that is refused, and a text that is not read, as errors of rebuilding
abbrev pub refused_as : Refusal → SaveError
refused_as (refusal.Refused code) = Refused code
refused_as refusal.Memory = Memory

abbrev pub unread_as : ShapeError → SaveError
unread_as shape.Shape = Shape
unread_as shape.Memory = Memory

-- the defined board stands; or there is none, since there is no description, or since a code refuses it; or there was want of memory
abbrev pub Rebuilds : Option (Result Board Code) → Result Parts SaveError → Type 0
Rebuilds defined (Ok p) = (b : Board) × (defined ≡ Some (Ok b)) × Stands b p
Rebuilds defined (Err Shape) = defined ≡ None
Rebuilds defined (Err (Refused code)) = defined ≡ Some (Err code)
Rebuilds defined (Err Memory) = ⊤
