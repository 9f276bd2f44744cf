-- The names of sessions, as the transcript gives them.
use Rattle.std.specs.Prelude.{ℕ, List, Option, None, replicate, slice_index_or}
use Rattle.qo_causes.specs.declared.inputs.Input.{Input}

-- by its number, the name of each session that is open, as bytes; none of one that is not open, or that has no name
abbrev pub Names : Type 0
Names = List (Option (List ℕ))

abbrev pub no_names : Names
no_names = replicate 16 None

abbrev pub name_of : Names → ℕ → Option (List ℕ)
name_of names s = slice_index_or names s None

-- an input, with the names of the sessions that are open once it was taken
pub record Given : Type 0 where
  pub input : Input
  pub names : Names

-- an input of a hub that names no session
abbrev pub unnamed : Input → Given
unnamed i = record { input = i; names = no_names }
