-- What `qom-list` says of an object's slots (the profile's type texts; compare QEMU's QAPI, `ObjectPropertyInfo`).
use Rattle.std.specs.Prelude.{ℕ, List, [], map, find, codes}
use Rattle.std.specs.Option.{option_map_or}
use Rattle.std.specs.Str.{bytes_eq}
use Rattle.qo_values.specs.declared.kinds.TypeId.{TypeId}
pub use Rattle.qo_values.specs.TypeTexts.{around, value_word}
use Rattle.qo_model.specs.Board.{Board, Slot, kind_of, slots_at, slot_named}
use Rattle.qo_model.specs.Types.{slots_of}
use Rattle.qo_model.specs.RowNames.{property_name}
use Rattle.qo_model.specs.declared.properties.Property.{Property}
use Rattle.qo_model.specs.declared.properties.PropertyRole.TheVariants as row

-- the word of a property's row; only plain rows have one
abbrev pub row_word : Property → List ℕ
row_word p = elim p.role [ row.Plain type first ↦ value_word type | _ ↦ [] ]

-- the word of the plain property of a name, of an object of a type
abbrev pub plain_word : TypeId → List ℕ → List ℕ
plain_word t name = option_map_or row_word (find (λ p. bytes_eq (property_name p.name) name) (slots_of t)) []

-- the type text of a slot of n that is no alias; a link has its declared type
abbrev pub own_text : Board → ℕ → List ℕ → Slot → List ℕ
own_text b n name (Slot.plain v) = option_map_or (λ t. plain_word t name) (kind_of b n) []
own_text b n name (Slot.child m) = option_map_or (around (codes "child")) (kind_of b m) []
own_text b n name (Slot.strong t target) = around (codes "link") t
own_text b n name (Slot.weak t target) = around (codes "link") t
own_text b n name (Slot.alias m property) = []

-- the type text of a slot of n; an alias has the text of the property that it passes on to, which is no alias
abbrev pub type_text : Board → ℕ → List ℕ × Slot → List ℕ
type_text b n s =
    elim s.1 [
      | Slot.alias m property ↦ option_map_or (own_text b m property) (slot_named b m property) []
      | _ ↦ own_text b n s.0 s.1
    ]

-- the names and type texts of an object's slots, in order
abbrev pub listing : Board → ℕ → List (List ℕ × List ℕ)
listing b n = map (λ (s : List ℕ × Slot). (s.0, type_text b n s)) (slots_at b n)
