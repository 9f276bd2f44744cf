-- Where ranges of addresses lie, and where a new one goes (a device of the profile; docs/PROFILE.md, DIMMs).
use Rattle.std.specs.Prelude.{ℕ, zero, suc, ◌+◌, ◌≤◌, ◌%◌, ◌^◌, Bool, not, ◌&&◌, ◌==◌, nat_lt, nat_le, if◌then◌else◌, List, [], ◌∷◌, Option, Some, None}
use Rattle.std.specs.List.{list_any}
use Rattle.qo_values.specs.declared.ranges.Range.{Range}

-- the window of addresses: its start, how many it has, and the first one after it
abbrev pub window_start : ℕ
window_start = 2 ^ 32

abbrev pub window_size : ℕ
window_size = 2 ^ 36

abbrev pub window_end : ℕ
window_end = window_start + window_size

-- size bytes from an address on
abbrev pub range_at : ℕ → ℕ → Range
range_at at size = record { at = at; size = size }

-- a range lies in the window
abbrev pub is_in_window : Range → Bool
is_in_window r = nat_le window_start r.at && nat_le (r.at + r.size) window_end

-- two ranges overlap: each begins before the other ends
abbrev pub overlap : Range → Range → Bool
overlap a b = nat_lt a.at (b.at + b.size) && nat_lt b.at (a.at + a.size)

-- a range overlaps one of these
abbrev pub overlaps_any : Range → List Range → Bool
overlaps_any r ranges = list_any (overlap r) ranges

-- these ranges rise and lie apart, from an address to the window's end
abbrev pub LieApartFrom : ℕ → List Range → Type 0
LieApartFrom from [] = from ≤ window_end
LieApartFrom from (r ∷ rs) = (from ≤ r.at) × LieApartFrom (r.at + r.size) rs

-- these ranges rise and lie apart in the window
abbrev pub LieApart : List Range → Type 0
LieApart ranges = LieApartFrom window_start ranges

-- size bytes fit at an address: it is a multiple of align, and they lie in the window and overlap none of the ranges
abbrev pub fits_at : List Range → ℕ → ℕ → ℕ → Bool
fits_at ranges size align at =
    (at % align == 0) && is_in_window (range_at at size) && not (overlaps_any (range_at at size) ranges)

-- the least number that passes a test, among so many from a first one on
unfoldable pub least : (ℕ → Bool) → ℕ → ℕ → Option ℕ
least test first zero = None
least test first (suc more) = if test first then Some first else least test (first + 1) more

-- the place of size bytes: the least address of the window at which they fit
abbrev pub free_address : List Range → ℕ → ℕ → Option ℕ
free_address ranges size align = least (fits_at ranges size align) window_start window_size
