-- For proofs alone. Lists of properties, whose names rise in byte order.
use Rattle.std.specs.Prelude.{ℕ, Bool, List, map}
use Rattle.std.specs.Cmp.Lexicographic.{slice_cmp}
use Rattle.std.specs.List.{list_all}
use Rattle.std.specs.List.Sorted.{IsStrictlySortedBy}
use Rattle.std.specs.Ordering.{nat_cmp, is_lt}
use Rattle.qo_values.specs.declared.properties.Val.{Val}

-- the names of properties
abbrev pub names_of : List (List ℕ × Val) → List (List ℕ)
names_of pairs = map (λ p. p.0) pairs

-- each name comes before those after it in byte order, so no two are equal
abbrev pub NamesRise : List (List ℕ) → Type 0
NamesRise names = IsStrictlySortedBy (slice_cmp nat_cmp) names

-- a name comes after each of these in byte order
abbrev pub is_above : List (List ℕ) → List ℕ → Bool
is_above names name = list_all (λ other. is_lt (slice_cmp nat_cmp other name)) names
