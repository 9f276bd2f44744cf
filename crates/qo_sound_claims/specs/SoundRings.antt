-- When the rings of a board are sound (QEMU's QAPI, `chardev-add`, the ring buffer backend: its id and its size; docs/PROFILE.md, rings).
use Rattle.std.specs.Prelude.{◌≡◌, ℕ, ◌≤◌, true, List, length, map}
use Rattle.std.specs.List.{AllByRecursion, IsDistinct}
use Rattle.std.specs.Str.{bytes_eq}
use Rattle.qo_values.specs.Rings.{is_ring_size}
use Rattle.qo_model.specs.Board.{Board, Ring}

-- a ring's size is a power of two that the profile allows, and it holds at most so many bytes
pub record IsGoodRing (r : Ring) : Type 0 where
  pub size : is_ring_size r.size ≡ true
  pub room : length r.bytes ≤ r.size

-- the ids of rings
abbrev pub ring_ids : List Ring → List (List ℕ)
ring_ids rings = map (λ (r : Ring). r.id) rings

-- the ids differ, and each ring is good
pub record AreGoodRings (rings : List Ring) : Type 0 where
  pub once : IsDistinct bytes_eq (ring_ids rings)
  pub each : AllByRecursion IsGoodRing rings

-- those of a board
abbrev pub SoundRings : Board → Type 0
SoundRings b = AreGoodRings b.rings
