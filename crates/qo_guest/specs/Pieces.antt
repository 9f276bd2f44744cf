-- For proofs alone. What is after a first piece.
use Rattle.std.specs.Prelude.{ℕ, ◌+◌, List, [], length, Option, Some, None}
use Rattle.qo_guest.specs.Addresses.{pieces}

-- the pieces after a separator, and none where there is no separator
abbrev pub pieces_after : ℕ → Option (List ℕ) → List (List ℕ)
pieces_after separator None = []
pieces_after separator (Some rest) = pieces separator rest

-- how much is left to be cut
abbrev pub size_after : Option (List ℕ) → ℕ
size_after None = 0
size_after (Some rest) = length rest + 1
