-- For proofs alone. The slots of a new object: its plain properties with their first values, and its links without targets.
use Rattle.std.specs.Prelude.{ℕ, List, ◌++◌, take, filter_map, Option, Some, None, option_map}
use Rattle.qo_values.specs.declared.kinds.TypeId.{TypeId}
use Rattle.qo_model.specs.Opening.{first_value}
use Rattle.qo_model.specs.Types.{slots_of}
use Rattle.qo_model.specs.RowNames.{property_name}
use Rattle.qo_model.specs.declared.properties.Property.{Property}
use Rattle.qo_model.specs.declared.properties.PropertyRole.{PropertyRole}
use Rattle.qo_model.specs.declared.properties.PropertyRole.TheVariants as row
use Rattle.qo_object.specs.declared.slots.Slot.{Slot}
use Rattle.qo_object.specs.declared.slots.Slot.TheVariants.{Plain, Link}
use Rattle.qo_object.specs.Slots.{Named}
use Rattle.qo_object.specs.Content.{Content}

-- what a property of a new object of a type begins as; children and aliases stay away
abbrev pub begun : TypeId → PropertyRole → Option Slot
begun t (row.Plain type first) = Some (Plain (first_value t first))
begun t (row.Link target strong) = Some (Link target strong None)
begun t kind = None

abbrev pub slot_begun : TypeId → Property → Option Named
slot_begun t p = option_map (λ s. (property_name p.name, s)) (begun t p.role)

-- the slots of a new object of a type, in order; and those of its first properties alone
abbrev pub new_slots : TypeId → List Named
new_slots t = filter_map (slot_begun t) (slots_of t)

abbrev pub first_slots : ℕ → TypeId → List Named
first_slots k t = filter_map (slot_begun t) (take k (slots_of t))

-- an object with slots more, after the others
abbrev pub with_slots : List Named → Content → Content
with_slots more c = record c { slots = c.slots ++ more }
