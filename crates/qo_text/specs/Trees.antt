-- What `info qom-tree` tells of a board (QEMU's hmp-commands-info.hx; the text is the profile's).
use Rattle.std.specs.Prelude.{ℕ, suc, ◌*◌, List, [], ◌∷◌, ◌++◌, Option, None, Some, replicate}
use Rattle.std.specs.List.{filter_map, flat_map}
use Rattle.std.specs.Option.{option_map_or}
use Rattle.qo_values.specs.Kinds.{type_name}
use Rattle.qo_values.specs.declared.births.TheConstants.{ROOT_BIRTH}
use Rattle.qo_values.specs.declared.kinds.TypeId.{TypeId}
use Rattle.qo_model.specs.Board.{Board, Slot, child, kind_of, slots_at}
use Rattle.qo_model.specs.Depth.{by_objects}
use Rattle.qo_model.specs.Paths.{births}

-- an object in the tree: how many steps it is below the root, its name there, and its type
pub record Row : Type 0 where
  pub depth : ℕ
  pub name : List ℕ
  pub kind : Option TypeId

-- the name of a child slot, and the object that it names
abbrev pub child_entry : List ℕ × Slot → Option (List ℕ × ℕ)
child_entry (name, child m) = Some (name, m)
child_entry s = None

-- the children of an object under their names, in order
abbrev pub child_entries : Board → ℕ → List (List ℕ × ℕ)
child_entries b n = filter_map child_entry (slots_at b n)

abbrev pub row_of : Board → ℕ → List ℕ × ℕ → Row
row_of b depth e = record { depth = depth; name = e.0; kind = kind_of b e.1 }

-- what is below an object at a depth, where f says it of its children: each child, and then what is below that
abbrev pub child_rows : Board → (ℕ → ℕ → List Row) → ℕ → List ℕ × ℕ → List Row
child_rows b f depth e = row_of b (suc depth) e ∷ f e.1 (suc depth)

abbrev pub below_turn : Board → (ℕ → ℕ → List Row) → ℕ → ℕ → List Row
below_turn b f n depth = flat_map (child_rows b f depth) (child_entries b n)

unfoldable pub rows_below : Board → ℕ → ℕ → List Row
rows_below b n depth = by_objects (below_turn b) (λ _ _. []) (births b) n depth

-- the tree, each object before what is below it; the root has no name
abbrev pub tree_rows : Board → List Row
tree_rows b = row_of b 0 ([], ROOT_BIRTH) ∷ rows_below b ROOT_BIRTH 0

-- a type's name; that of an object that is not there is empty
abbrev pub kind_text : Option TypeId → List ℕ
kind_text kind = option_map_or type_name kind []

-- a line: two spaces a step, a `/` and the name, and the type in brackets
abbrev pub row_text : Row → List ℕ
row_text r = replicate (2 * r.depth) 32 ++ 47 ∷ (r.name ++ 32 ∷ 40 ∷ (kind_text r.kind ++ 41 ∷ 10 ∷ []))

-- `info qom-tree`
abbrev pub tree_text : Board → List ℕ
tree_text b = flat_map row_text (tree_rows b)
