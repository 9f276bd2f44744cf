-- The act of an enter phase is none of a type.
use Rattle.std.proofs.Common.{◌≡◌, refl, None}
use Rattle.qo_values.specs.Kinds.{entering}
use Rattle.qo_values.specs.declared.kinds.ResetKind.{ResetKind}
use Rattle.qo_values.specs.declared.kinds.ResetKind.TheVariants.{Cold, Wakeup}
use Rattle.qo_model.specs.Notes.{deed_type}
use Rattle.qo_model.specs.declared.notes.Deed.TheVariants.{Did}

pub entering-plain : (kind : ResetKind) → deed_type (Did (entering kind)) ≡ None
entering-plain Cold = refl
entering-plain Wakeup = refl
