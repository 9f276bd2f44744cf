-- For proofs alone. What the calls on paths answer.
use Rattle.std.specs.Prelude.{ℕ, if◌then◌else◌, List, Option, None, Result, Ok, Err}
use Rattle.std.specs.Option.{option_and_then}
use Rattle.qo_slots.specs.declared.keys.Key.{Key}
use Rattle.qo_model.specs.Board.{Board}
use Rattle.qo_model.specs.Paths.{Resolution, found, missing, several, attached, components, only_of, walk}
use Rattle.qo_paths.specs.declared.errors.PathError.{PathError}
use Rattle.qo_paths.specs.declared.errors.PathError.TheVariants.{NotFound, Ambiguous}

-- what an answer says that a path leads to
abbrev pub shown_resolution : Result Key PathError → Resolution
shown_resolution (Ok key) = found key.birth
shown_resolution (Err NotFound) = missing
shown_resolution (Err Ambiguous) = several

-- the object of the wanted type that components, and those of a path, lead to from n, if that is attached
abbrev pub end_along : Board → List (List ℕ) → List ℕ → ℕ → Option ℕ
end_along b parts wanted n = if attached b n then option_and_then (only_of b wanted) (walk b n parts) else None

abbrev pub end_from : Board → List ℕ → List ℕ → ℕ → Option ℕ
end_from b path wanted n = end_along b (components path) wanted n
