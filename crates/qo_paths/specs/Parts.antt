-- For proofs alone. The parts of a path as text.
use Rattle.std.specs.Prelude.{ℕ, ◌==◌, if◌then◌else◌, List, [], ◌∷◌, ◌++◌, length, Option, None, Some}
use Rattle.std.specs.List.{slice_split}
use Rattle.qo_model.specs.Paths.{components}

-- the parts of what follows a `/`, if there is one
abbrev pub parts_after : Option (List ℕ) → List (List ℕ)
parts_after None = []
parts_after (Some path) = slice_split (λ c. c == 47) path

-- the components of what follows a `/`, and of a path, given its first part and what follows that
abbrev pub named_after : Option (List ℕ) → List (List ℕ)
named_after None = []
named_after (Some path) = components path

abbrev pub named_from : List ℕ → Option (List ℕ) → List (List ℕ)
named_from part rest = if length part == 0 then named_after rest else part ∷ named_after rest

-- the path of the names on a way up: a `/` and a name for each, from the last to the first
abbrev pub path_up : List (List ℕ) → List ℕ
path_up [] = []
path_up (name ∷ names) = path_up names ++ 47 ∷ name
