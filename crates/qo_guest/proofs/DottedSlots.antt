-- Slots after the first, each after a dot.
use Rattle.std.proofs.Common.{ℕ, List, ◌∷◌}
use Rattle.std.specs.List.{flat_map}
use Rattle.std.specs.Fmt.{decimal}

-- a dot and a slot, each time
abbrev pub dotted : List ℕ → List ℕ
dotted slots = flat_map (λ slot. 46 ∷ decimal slot) slots
