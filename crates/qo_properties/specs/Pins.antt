-- For proofs alone. What is held from outside the tree of a board, between two calls.
use Rattle.std.specs.Prelude.{◌≡◌, [], ◌∷◌}
use Rattle.qo_values.specs.declared.births.TheConstants.{ROOT_BIRTH}
use Rattle.qo_heap.specs.Board.{pins_in}
use Rattle.qo_heap.specs.Objects.{Objects}

-- `/` alone is pinned, once
abbrev pub OnlyRootPinned : Objects → Type 0
OnlyRootPinned v = pins_in v.rows ≡ ROOT_BIRTH ∷ []
