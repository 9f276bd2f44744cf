-- Properties as they are listed (QEMU's QAPI, `qom-list`: a list of ObjectPropertyInfo, of which `name` and `type` are told).
use Rattle.std.specs.Prelude.{◌≡◌, ℕ, Bool, true, false, List, [], ◌∷◌, ◌++◌, map, codes}
use Rattle.std.specs.Str.{IsUtf8}
use Rattle.serde_json.specs.Data.{Data, array, member, no_members, object, string}
use Rattle.serde_json.specs.View.{items_of}
use Rattle.serde_json.specs.Written.{comma_if, compact_text}
use Rattle.qo_replies.specs.Json.{ascii}

-- a property, by its name and type text
abbrev pub property_data : List ℕ × List ℕ → Data
property_data p = object (member (codes "name") (string p.0) (member (codes "type") (string p.1) no_members))

-- some properties, in order
abbrev pub properties_data : List (List ℕ × List ℕ) → Data
properties_data rows = array (items_of (map property_data rows))

-- a list of properties that is being written: its text, without the closing bracket, and whether a property stands in it
pub record Begun : Type 0 where
  pub text : List ℕ
  pub some : Bool

-- whether there are any
abbrev pub are_any : List (List ℕ × List ℕ) → Bool
are_any [] = false
are_any (row ∷ rows) = true

-- the text of properties, with commas between them, and before the first where others stand before
abbrev pub rows_text : Bool → List (List ℕ × List ℕ) → List ℕ
rows_text later [] = []
rows_text later (row ∷ rows) = comma_if later ++ (compact_text (property_data row) ++ rows_text true rows)

-- the list up to its closing bracket
abbrev pub opened : List (List ℕ × List ℕ) → List ℕ
opened rows = 91 ∷ rows_text false rows

-- exactly these properties were written
pub record HasWritten (rows : List (List ℕ × List ℕ)) (l : Begun) : Type 0 where
  pub text : l.text ≡ ascii (opened rows)
  pub some : l.some ≡ are_any rows
  pub spelled : IsUtf8 (opened rows)

-- what stands in a property around its name and its type text, each of which is a JSON string
abbrev pub before_name : Bool → List ℕ
before_name some = comma_if some ++ codes "{\"name\":"

abbrev pub before_type : List ℕ
before_type = codes ",\"type\":"

abbrev pub after_type : List ℕ
after_type = codes "}"
