-- For proofs alone. Where a name stands among members, or else where it goes.
use Rattle.std.specs.Prelude.{ℕ, suc, List, [], ◌∷◌, Result, Ok, Err}
use Rattle.std.specs.Borrow.{Bor}
use Rattle.std.specs.Cmp.Lexicographic.{slice_cmp}
use Rattle.std.specs.Ordering.{match_ordering, nat_cmp}
use Rattle.qo_json.specs.declared.values.Json.{Json}

-- the place, in a list that has one member more before
abbrev pub one_further : Result ℕ ℕ → Result ℕ ℕ
one_further (Ok at) = Ok (suc at)
one_further (Err at) = Err (suc at)

-- where the first member stands that has the name, if no name before comes after it; or else the place of the first that does
abbrev pub place_of : List ℕ → List (Bor (List ℕ) × Json) → Result ℕ ℕ
place_of name [] = Err 0
place_of name (m ∷ ms) = match_ordering (slice_cmp nat_cmp name m.0.now) (Err 0) (Ok 0) (one_further (place_of name ms))
