-- Slots read one after another.
use Rattle.std.proofs.Common.{ℕ, List, ◌++◌, Option}
use Rattle.std.specs.Prelude.{option_and_then}
use Rattle.qo_guest.specs.Addresses.{numbers_of, not_too_deep}

-- slots read so far, with those that the words after them give
abbrev pub with_steps : List ℕ → List (List ℕ) → Option (List ℕ)
with_steps steps words = option_and_then (λ more. not_too_deep (steps ++ more)) (numbers_of words)
