-- What rebuild tells, by what rebuilding answers.
use Rattle.std.proofs.Common.{Option, Result, Err}
use Rattle.qo_values.specs.declared.codes.Code.{Code}
use Rattle.qo_model.specs.Board.{Board}
use Rattle.qo_rebuild.specs.Answers.{Rebuilds}
use Rattle.qo_rebuild.specs.declared.errors.SaveError.{SaveError}
use Rattle.qo_rebuild.specs.declared.errors.SaveError.TheVariants.{Memory, Refused, Shape}
use Rattle.compose.specs.Rebuild.{TellsBoard}

-- no board, and so no text of it
pub tells-none : (defined : Option (Result Board Code)) (e : SaveError) → Rebuilds defined (Err e) → TellsBoard defined (Err e)
tells-none defined Shape none = none
tells-none defined (Refused code) why = why
tells-none defined Memory want = tt
