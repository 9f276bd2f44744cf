-- What `types` puts.
use Rattle.std.specs.Prelude.{◌≡◌, ℕ, if◌then◌else◌, List, [], ◌∷◌, flat_map, codes, map, Option}
use Rattle.std.specs.List.{join_with_byte}
use Rattle.std.specs.Io.KnownBytes.{append_known}
use Rattle.qo_causes.specs.Bytes.{AppendsPrefix}
use Rattle.std.specs.Option.{option_map_or}
use Rattle.qo_values.specs.Kinds.{type_name}
use Rattle.qo_values.specs.declared.kinds.TypeId.{TypeId}
use Rattle.qo_model.specs.RowNames.{interface_name}
use Rattle.qo_model.specs.Types.{interfaces_of, names_text, parent_of, type_line, types}
use Rattle.qo_types.specs.Rows.{is_abstract}
use Rattle.compose.specs.declared.statuses.Status.{Status}
use Rattle.compose.specs.declared.statuses.Status.TheVariants.{Done, Usage, BadRecord, Memory, ReadFault, WriteFault, HubFault, InputLimit, BadBoard}

-- the line of each type, in row order
abbrev pub type_lines : List ℕ
type_lines = flat_map type_line types

-- the line of a type as it is told part by part, without its end (for proofs alone)
abbrev pub line_told : TypeId → List ℕ
line_told t =
    join_with_byte 32 (
    type_name t ∷ option_map_or type_name (parent_of t) (codes "-") ∷ (if is_abstract t then codes "abstract" else codes "plain")
    ∷ names_text (map interface_name (interfaces_of t)) ∷ []
    )

-- `types`, by its status: the lines were put, or a front of them, or nothing
abbrev pub ToldTypes : Status → Option (List ℕ) → Option (List ℕ) → Type 0
ToldTypes Done held_old held_new = held_new ≡ append_known held_old type_lines
ToldTypes WriteFault held_old held_new = AppendsPrefix held_old held_new type_lines
ToldTypes Memory held_old held_new = held_new ≡ held_old
ToldTypes Usage held_old held_new = ⊥
ToldTypes BadRecord held_old held_new = ⊥
ToldTypes ReadFault held_old held_new = ⊥
ToldTypes HubFault held_old held_new = ⊥
ToldTypes InputLimit held_old held_new = ⊥
ToldTypes BadBoard held_old held_new = ⊥
