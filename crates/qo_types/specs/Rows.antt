-- What the type table lists.
use Rattle.std.specs.Prelude.{ℕ, Bool, false, not, ◌&&◌, ◌||◌, List, map, filter}
use Rattle.std.specs.Option.{option_map_or}
use Rattle.qo_values.specs.declared.kinds.TypeId.{TypeId}
use Rattle.qo_model.specs.Types.{TypeInfo, types, info_of, is_a}

-- the types in row order
abbrev pub type_ids : List TypeId
type_ids = map (λ (r : TypeInfo). r.id) types

-- whether the row of a type says that it is abstract
abbrev pub is_abstract : TypeId → Bool
is_abstract t = option_map_or (λ (r : TypeInfo). r.is_abstract) (info_of t) false

-- the types of a name, in row order, abstract ones only where asked
abbrev pub listed : List ℕ → Bool → List TypeId
listed name with_abstract = filter (λ t. is_a t name && (with_abstract || not (is_abstract t))) type_ids
