-- For proofs alone. Parts whose first one has more before it, and the keys of options.
use Rattle.std.specs.Prelude.{ℕ, List, [], ◌∷◌, ◌++◌, map}

abbrev pub first_with : List ℕ → List (List ℕ) → List (List ℕ)
first_with front [] = front ∷ []
first_with front (part ∷ parts) = (front ++ part) ∷ parts

abbrev pub keys_of : List (List ℕ × List ℕ) → List (List ℕ)
keys_of found = map (λ (p : List ℕ × List ℕ). p.0) found
