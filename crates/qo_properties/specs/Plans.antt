-- For proofs alone. What is planned for the property of a name.
use Rattle.std.specs.Prelude.{◌≡◌, ℕ, List, Option, Some, None, option_and_then}
use Rattle.std.specs.List.{AllZip}
use Rattle.qo_values.specs.declared.kinds.TypeId.{TypeId}
use Rattle.qo_model.specs.Board.{Board}
use Rattle.qo_model.specs.Objects.{Given}
use Rattle.qo_model.specs.Properties.{property_named}
use Rattle.qo_object.specs.Slots.{Named}
use Rattle.qo_properties.specs.declared.adding.filling.InitialValue.{InitialValue}
use Rattle.qo_properties.specs.Filling.{IsGiven}
use Rattle.qo_properties.specs.NewSlots.{new_slots, slot_begun}

-- a plan of the slots of a new object of a type is what the properties given say
abbrev pub IsPlan : Board → TypeId → List Given → List InitialValue → Type 0
IsPlan b t props plan = AllZip (IsGiven b props) plan (new_slots t)

-- the slot that a new object of a type begins with for the property of a name, if it has one
abbrev pub own_slot_for : TypeId → List ℕ → Option Named
own_slot_for t name = option_and_then (slot_begun t) (property_named t name)

-- what is planned for a slot is what the properties given say; where there is no slot, nothing is planned
abbrev pub TellsGiven : Board → List Given → Option InitialValue → Option Named → Type 0
TellsGiven b props fill None = fill ≡ None
TellsGiven b props None (Some s) = ⊥
TellsGiven b props (Some f) (Some s) = IsGiven b props f s
