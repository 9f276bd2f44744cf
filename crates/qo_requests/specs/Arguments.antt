-- The rows of the arguments of commands, and what they say of an object (docs/PROFILE.md, commands).
use Rattle.std.specs.Prelude.{ℕ, Bool, true, false, ◌&&◌, ◌||◌, nat_le, List, codes, is_some, unwrap_or, option_and_then}
use Rattle.std.specs.List.{list_all, list_any}
use Rattle.std.specs.Option.{option_map_or}
use Rattle.std.specs.Str.{bytes_eq}
use Rattle.serde_json.specs.Data.{Data, Items, no_items, item, Members, no_members, member}
use Rattle.serde_json.specs.Find.{as_number, as_u64, as_bool, as_str, as_array, as_object}
use Rattle.qo_values.specs.PlainValues.{plain_of}
use Rattle.qo_values.specs.declared.limits.TheConstants.{RING_SIZE_MAX}
use Rattle.qo_requests.specs.Fields.{field_name, argument}
use Rattle.qo_requests.specs.declared.arguments.Argument.{Argument}
use Rattle.qo_requests.specs.declared.arguments.Argument.TheVariants.{Needed, Optional}
use Rattle.qo_requests.specs.declared.arguments.ArgumentType.{ArgumentType}
use Rattle.qo_requests.specs.declared.arguments.ArgumentType.TheVariants as kind
use Rattle.qo_requests.specs.declared.fields.Field.{Field}

-- the argument's name, and its kind
abbrev pub field_of : Argument → Field
field_of (Needed field kind) = field
field_of (Optional field kind) = field

abbrev pub type_of : Argument → ArgumentType
type_of (Needed field kind) = kind
type_of (Optional field kind) = kind

-- all values of a list are texts
abbrev pub all_texts : Items → Bool
all_texts no_items = true
all_texts (item d ds) = is_some (as_str d) && all_texts ds

-- the name of a form
abbrev pub is_form : List ℕ → Bool
is_form name = bytes_eq name (codes "utf8") || bytes_eq name (codes "base64")

-- the name of a type of a reset
abbrev pub is_reset_type : List ℕ → Bool
is_reset_type name = bytes_eq name (codes "cold") || bytes_eq name (codes "wakeup")

-- a value is of a kind
abbrev pub fits : ArgumentType → Data → Bool
fits kind.Any d = true
fits kind.Object d = is_some (as_object d)
fits kind.Text d = is_some (as_str d)
fits kind.Texts d = option_map_or all_texts (as_array d) false
fits kind.Truth d = is_some (as_bool d)
fits kind.Number d = is_some (option_and_then as_u64 (as_number d))
fits kind.RingBytes d = option_map_or (λ size. nat_le size RING_SIZE_MAX) (option_and_then as_u64 (as_number d)) false
fits kind.Form d = option_map_or is_form (as_str d) false
fits kind.ResetType d = option_map_or is_reset_type (as_str d) false
fits kind.Plain d = is_some (plain_of d)

-- the name is that of one of these
abbrev pub is_named : List Argument → List ℕ → Bool
is_named rows name = list_any (λ row. bytes_eq (field_name (field_of row)) name) rows

-- an argument stands there, if it must
abbrev pub stands : Argument → Data → Bool
stands (Needed field kind) d = is_some (argument field d)
stands (Optional field kind) d = true

-- each argument that must stand in the object does
abbrev pub all_stand : List Argument → Data → Bool
all_stand rows d = list_all (λ row. stands row d) rows

-- each of these members is named
abbrev pub all_named : List Argument → Members → Bool
all_named rows no_members = true
all_named rows (member name d ms) = is_named rows name && all_named rows ms

-- no other member than these stands in the object
abbrev pub has_only : List Argument → Data → Bool
has_only rows d = all_named rows (unwrap_or (as_object d) no_members)

-- an argument is of its kind, where it stands there
abbrev pub is_fit : Argument → Data → Bool
is_fit row d = option_map_or (fits (type_of row)) (argument (field_of row) d) true

-- each argument that stands in the object is of its kind
abbrev pub all_fit : List Argument → Data → Bool
all_fit rows d = list_all (λ row. is_fit row d) rows

-- each of these members that is not named is a plain value
abbrev pub all_plain : List Argument → Members → Bool
all_plain rows no_members = true
all_plain rows (member name d ms) = (is_named rows name || fits kind.Plain d) && all_plain rows ms

-- each member of the object that is none of these is a plain value
abbrev pub plain_beside : List Argument → Data → Bool
plain_beside rows d = all_plain rows (unwrap_or (as_object d) no_members)
