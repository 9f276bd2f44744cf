-- For proofs alone. What is planned for the slots of a new object, by what is given for its properties.
use Rattle.std.specs.Prelude.{◌≡◌, Option, Some, None, IfSome, Result, Ok, Err}
use Rattle.std.specs.Bool.{⊤}
use Rattle.std.specs.List.{slice_get}
use Rattle.qo_values.specs.declared.codes.Code.{Code}
use Rattle.qo_values.specs.declared.kinds.TypeId.{TypeId}
use Rattle.qo_properties.specs.declared.adding.planning.PlacedRow.{PlacedRow}
use Rattle.qo_properties.specs.declared.refusals.Refusal.{Refusal}
use Rattle.qo_properties.specs.declared.refusals.Refusal.TheVariants.{Refused, Memory}
use Rattle.qo_properties.specs.NewSlots.{new_slots, slot_begun}

-- what a call answers where a refusal is defined: it is done where there is none, or refused with its code; nothing is told for want of memory
abbrev pub TellsRefusal : {T : Type 0} → Result T Refusal → Option Code → Type 0
TellsRefusal (Ok done) refusal = refusal ≡ None
TellsRefusal (Err (Refused code)) refusal = refusal ≡ Some code
TellsRefusal (Err Memory) refusal = ⊤

-- the slot of a property stands at its place among those of a new object of a type, if it has one
abbrev pub StandsAt : TypeId → PlacedRow → Type 0
StandsAt t p = IfSome (slot_begun t p.row) (λ s. slice_get (new_slots t) p.place ≡ Some s)
