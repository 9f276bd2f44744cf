-- The definitions of places and rings on cases.
use Rattle.std.proofs.Common.{◌≡◌, refl, ◌+◌, ◌-◌, true, false, [], ◌∷◌, codes, Some, None}
use Rattle.qo_values.specs.Placing.{fits_at, is_in_window, least, overlap, range_at, window_end, window_start}
use Rattle.qo_buses.specs.Rings.{named_ring}

-- ranges that touch do not overlap; one without bytes overlaps where it lies inside
touch : overlap (range_at 0 16) (range_at 16 16) ≡ false
touch = refl

one-byte : overlap (range_at 0 17) (range_at 16 16) ≡ true
one-byte = refl

empty-inside : overlap (range_at 8 0) (range_at 0 16) ≡ true
empty-inside = refl

empty-first : overlap (range_at 0 0) (range_at 0 16) ≡ false
empty-first = refl

-- the window has its last byte and none after it
last-byte : is_in_window (range_at (window_end - 16) 16) ≡ true
last-byte = refl

past-last : is_in_window (range_at (window_end - 16) 17) ≡ false
past-last = refl

before-first : is_in_window (range_at (window_start - 1) 1) ≡ false
before-first = refl

-- the least place is after what lies at the start, in a gap that is large enough
after : least (fits_at (range_at window_start 16 ∷ []) 8 16) window_start 40 ≡ Some (window_start + 16)
unfolding least
after = refl

small-gap : least (fits_at (range_at window_start 8 ∷ range_at (window_start + 24) 8 ∷ []) 16 8) window_start 48 ≡ Some (window_start + 8)
unfolding least
small-gap = refl

no-gap : least (fits_at (range_at window_start 8 ∷ range_at (window_start + 24) 8 ∷ []) 24 8) window_start 32 ≡ None
unfolding least
no-gap = refl

-- a range from below the window on, in any order
from-below : least (fits_at (range_at (window_start + 16) 16 ∷ range_at (window_start - 8) 24 ∷ []) 8 16) window_start 40 ≡ Some (window_start + 32)
unfolding least
from-below = refl

-- the empty text names no ring
no-ring : named_ring [] ≡ None
no-ring = refl

a-ring : named_ring (codes "r0") ≡ Some (codes "r0")
a-ring = refl
