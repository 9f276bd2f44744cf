-- Lemmas on the bytes that a sink holds.
use Rattle.std.proofs.Common.{◌≡◌, ℕ, List, ◌++◌, Option, Some, None, refl, ap, append_assoc}
use Rattle.std.specs.Io.KnownBytes.{append_known}

-- two appends are one
pub append_known_twice : (known : Option (List ℕ)) (xs ys : List ℕ) → append_known (append_known known xs) ys ≡ append_known known (xs ++ ys)
append_known_twice None xs ys = refl
append_known_twice (Some zs) xs ys = ap (λ l. Some l) (append_assoc zs xs ys)
