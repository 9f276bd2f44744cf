-- For a law alone. What holds of the cut.
use Rattle.std.specs.Prelude.{◌≡◌, ℕ, ◌<◌, ◌≤◌, List, [], ◌++◌, length, reverse, take, Some, None}
use Rattle.qo_framing.specs.Fronts.{End, ending, end_after}
use Rattle.qo_framing.specs.Cut.{Framing, cut, cut_of_part, first_part, followed}

-- the cut is that of the first part and then of the rest, however many parts there are
abbrev pub CutsByParts : Type 0
CutsByParts = (state : Framing) (bytes : List ℕ) → cut state bytes ≡ cut_of_part (first_part state bytes) cut

-- two stretches are cut as one: the items of the first, and then those of the second from where the first ended
abbrev pub CutsAnywhere : Type 0
CutsAnywhere = (state : Framing) (a b : List ℕ) → cut state (a ++ b) ≡ followed (cut state a).items (cut (cut state a).state b)

-- an object ends with the first so many of the bytes, and with no fewer
pub record EndsFirst (bytes : List ℕ) (e : End) : Type 0 where
  pub some : 0 < e.count
  pub within : e.count ≤ length bytes
  pub here : ending (reverse (take e.count bytes)) ≡ Some e.how
  pub before : (n : ℕ) → n < e.count → ending (reverse (take n bytes)) ≡ None

-- the end of an object is the first; and where there is none, no front of the bytes ends one
abbrev pub EndsAreFirst : Type 0
EndsAreFirst = (bytes : List ℕ)
    → ((e : End) → end_after [] bytes ≡ Some e → EndsFirst bytes e) × (end_after [] bytes ≡ None → (n : ℕ) → ending (reverse (take n bytes)) ≡ None)
