-- Rings of bytes: a ring holds the last bytes added, as many as its size, less those taken (docs/PROFILE.md, rings).
use Rattle.std.specs.Prelude.{ℕ, ◌-◌, Bool, ◌&&◌, nat_le, List, [], ◌∷◌, ◌++◌, length, take, drop}
use Rattle.std.specs.Int.{is_power_of_two}
use Rattle.qo_values.specs.declared.limits.TheConstants.{RING_SIZE_MAX}

-- the size of a ring and its bytes, oldest first
pub record RingBytes : Type 0 where
  pub size : ℕ
  pub bytes : List ℕ

-- a power of two from 1 to RING_SIZE_MAX
abbrev pub is_ring_size : ℕ → Bool
is_ring_size size = is_power_of_two size && nat_le size RING_SIZE_MAX

-- the last n of a list
abbrev pub keep_last : ℕ → List ℕ → List ℕ
keep_last n bytes = drop (length bytes - n) bytes

-- a ring without bytes
abbrev pub empty_ring : ℕ → RingBytes
empty_ring size = record { size = size; bytes = [] }

-- more bytes after those of a ring; the oldest go
abbrev pub ring_add : RingBytes → List ℕ → RingBytes
ring_add ring more = record ring { bytes = keep_last ring.size (ring.bytes ++ more) }

-- one byte more
abbrev pub ring_push : RingBytes → ℕ → RingBytes
ring_push ring byte = ring_add ring (byte ∷ [])

-- the oldest bytes of a ring, at most so many
abbrev pub ring_oldest : RingBytes → ℕ → List ℕ
ring_oldest ring most = take most ring.bytes

-- a ring without them
abbrev pub ring_drop : RingBytes → ℕ → RingBytes
ring_drop ring most = record ring { bytes = drop most ring.bytes }
