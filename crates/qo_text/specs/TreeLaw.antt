-- For a law alone. The text of a tree tells the tree.
use Rattle.std.specs.Prelude.{◌≡◌, ◌==◌, ℕ, false, List}
use Rattle.std.specs.List.{AllByRecursion, list_any}
use Rattle.qo_model.specs.Board.{Board, Record}
use Rattle.qo_text.specs.Trees.{child_entry, tree_rows, tree_text}
use Rattle.std.specs.List.{filter_map}

-- a name holds no space
abbrev pub IsOneWord : List ℕ → Type 0
IsOneWord name = list_any (λ (c : ℕ). c == 32) name ≡ false

-- no child has a name that holds a space
abbrev pub HasOneWordNames : Board → Type 0
HasOneWordNames b = AllByRecursion (λ (r : Record). AllByRecursion (λ (e : List ℕ × ℕ). IsOneWord e.0) (filter_map child_entry r.slots)) b.records

-- two boards of such names whose texts are equal have the same list of depth, name and type
abbrev pub TextsTellTrees : Type 0
TextsTellTrees = (b c : Board) → HasOneWordNames b → HasOneWordNames c → tree_text b ≡ tree_text c → tree_rows b ≡ tree_rows c
