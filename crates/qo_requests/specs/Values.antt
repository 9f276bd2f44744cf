-- The values of arguments that are of their kinds; of one that is not, a value that is never asked for.
use Rattle.std.specs.Prelude.{ℕ, Bool, List, [], ◌∷◌, codes, Option, Some, None, option_map, option_and_then, unwrap_or, if◌then◌else◌}
use Rattle.std.specs.Str.{bytes_eq}
use Rattle.serde_json.specs.Data.{Data, Items, no_items, item, Members, no_members, member}
use Rattle.serde_json.specs.Find.{as_number, as_u64, as_bool, as_str, as_array, as_object}
use Rattle.qo_values.specs.PlainValues.{plain_of}
use Rattle.qo_values.specs.declared.forms.Form.{Form}
use Rattle.qo_values.specs.declared.forms.Form.TheVariants.{Utf8, Base64}
use Rattle.qo_values.specs.declared.kinds.ResetKind.{ResetKind}
use Rattle.qo_values.specs.declared.kinds.ResetKind.TheVariants.{Cold, Wakeup}
use Rattle.qo_values.specs.declared.properties.Val.{Val}
use Rattle.qo_values.specs.declared.properties.Val.TheVariants.{Nothing}
use Rattle.qo_requests.specs.Arguments.{is_named}
use Rattle.qo_requests.specs.Fields.{argument}
use Rattle.qo_requests.specs.declared.arguments.Argument.{Argument}
use Rattle.qo_requests.specs.declared.fields.Field.{Field}

-- the text that a value is, and the plain value
abbrev pub text_of : Data → List ℕ
text_of d = unwrap_or (as_str d) []

abbrev pub plain_in : Data → Val
plain_in d = unwrap_or (plain_of d) Nothing

-- the texts of a list
abbrev pub texts_in : Items → List (List ℕ)
texts_in no_items = []
texts_in (item d ds) = text_of d ∷ texts_in ds

-- one of the two forms by its name
abbrev pub form_named : List ℕ → Option Form
form_named name =
    if bytes_eq name (codes "utf8") then Some Utf8 else (if bytes_eq name (codes "base64") then Some Base64 else None)

-- one of the two types of resets by its name
abbrev pub reset_type_named : List ℕ → Option ResetKind
reset_type_named name =
    if bytes_eq name (codes "cold") then Some Cold else (if bytes_eq name (codes "wakeup") then Some Wakeup else None)

-- an argument by its kind, where it stands there
abbrev pub text_at : Field → Data → Option (List ℕ)
text_at field args = option_and_then as_str (argument field args)

abbrev pub number_at : Field → Data → Option ℕ
number_at field args = option_and_then (λ d. option_and_then as_u64 (as_number d)) (argument field args)

abbrev pub truth_at : Field → Data → Option Bool
truth_at field args = option_and_then as_bool (argument field args)

abbrev pub form_at : Field → Data → Option Form
form_at field args = option_and_then form_named (text_at field args)

abbrev pub reset_type_at : Field → Data → Option ResetKind
reset_type_at field args = option_and_then reset_type_named (text_at field args)

abbrev pub texts_at : Field → Data → Option (List (List ℕ))
texts_at field args = option_map texts_in (option_and_then as_array (argument field args))

-- an argument that must stand there, by its kind
abbrev pub text_in : Field → Data → List ℕ
text_in field args = unwrap_or (text_at field args) []

abbrev pub number_in : Field → Data → ℕ
number_in field args = unwrap_or (number_at field args) 0

abbrev pub value_in : Field → Data → Val
value_in field args = unwrap_or (option_and_then plain_of (argument field args)) Nothing

-- the members that are none of these as properties, in their order
abbrev pub properties_in : List Argument → Members → List (List ℕ × Val)
properties_in rows no_members = []
properties_in rows (member name d ms) =
    if is_named rows name then properties_in rows ms else (name, plain_in d) ∷ properties_in rows ms

abbrev pub properties_beside : List Argument → Data → List (List ℕ × Val)
properties_beside rows args = properties_in rows (unwrap_or (as_object args) no_members)
