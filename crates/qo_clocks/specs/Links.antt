-- For proofs alone. The link of a clock to its source on the heap: how slots of a name are changed.
use Rattle.std.specs.Prelude.{ℕ, Bool, true, false, if◌then◌else◌, List, Option, None, Some, position}
use Rattle.std.specs.Option.{option_map_or}
use Rattle.std.specs.Str.{bytes_eq}
use Rattle.qo_values.specs.Kinds.{type_name}
use Rattle.qo_slots.specs.declared.keys.Key.{Key}
use Rattle.qo_model.specs.Types.{is_a}
use Rattle.qo_object.specs.declared.slots.Slot.{Slot}
use Rattle.qo_object.specs.declared.slots.Slot.TheVariants.{Link}
use Rattle.qo_object.specs.Content.{Content}
use Rattle.qo_object.specs.Slots.{changed_at}
use Rattle.qo_heap.specs.Objects.{Objects, content_of, slots_of, with_edit}

-- whether an object is of a type of a name
abbrev pub is_of_on : Objects → List ℕ → ℕ → Bool
is_of_on v name n = option_map_or (λ (c : Content). is_a c.kind name) (content_of v n) false

-- whether a slot is a link without a target to objects of a type that an object is of; such a link points at it, and any
-- other slot stays
abbrev pub accepts : Objects → Key → Slot → Bool
accepts v key (Link ty strong None) = is_of_on v (type_name ty) key.birth
accepts v key s = false

abbrev pub fitted_on : Objects → Key → Slot → Slot
fitted_on v key (Link ty strong None) = if is_of_on v (type_name ty) key.birth then Link ty strong (Some key) else Link ty strong None
fitted_on v key s = s

-- a weak link is emptied; any other slot stays
abbrev pub is_weak : Slot → Bool
is_weak (Link ty false target) = true
is_weak s = false

abbrev pub unseen_on : Slot → Slot
unseen_on (Link ty false target) = Link ty false None
unseen_on s = s

-- the slot of a name of an object is changed
abbrev pub with_slot_changed : (Slot → Slot) → ℕ → Content → Content
with_slot_changed change i c = record c { slots = changed_at change i c.slots }

abbrev pub index_on : Objects → ℕ → List ℕ → Option ℕ
index_on v n name = position (λ (s : List ℕ × Slot). bytes_eq name s.0) (slots_of v n)

abbrev pub changed_named : ℕ → List ℕ → (Slot → Slot) → Objects → Objects
changed_named n name change v = elim (index_on v n name) [ None ↦ v | Some i ↦ with_edit n (with_slot_changed change i) v ]
