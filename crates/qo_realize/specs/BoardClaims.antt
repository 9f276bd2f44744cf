-- For proofs alone. The claims of a board, recounted: what each object claims while it is realized, by its slots and its registers (docs/PROFILE.md, rings and
-- DIMMs).
use Rattle.std.specs.Prelude.{ℕ, if◌then◌else◌, codes, Option, None, option_map, slice_get}
use Rattle.std.specs.Option.{option_and_then}
use Rattle.qo_values.specs.declared.ranges.Range.{Range}
use Rattle.qo_claims.specs.Lists.{bus_slot}
use Rattle.qo_claims.specs.declared.claims.Claimed.{Claimed}
use Rattle.qo_claims.specs.declared.claims.Claimed.TheVariants as on
use Rattle.qo_kinds.specs.declared.kept_set.KeptSet.{KeptSet}
use Rattle.qo_model.specs.Board.{Board, Record, record_of}
use Rattle.qo_model.specs.Devices.{bus_of, bus_slot_of, text_at}
use Rattle.qo_model.specs.Paths.{is_of}
use Rattle.qo_model.specs.Plug.{backend_of, range_in}
use Rattle.qo_buses.specs.Rings.{named_ring}
use Rattle.qo_heap.specs.Board.{Shows}
use Rattle.qo_heap.specs.Objects.{Objects}
use Rattle.qo_unplug.specs.RealizedClaims.{KeepsDue}

-- its slot of the bus that it is on
abbrev pub slot_due : Board → ℕ → Option Claimed
slot_due b n = option_and_then (λ bus. option_map (λ slot. on.Slot (bus_slot bus slot)) (bus_slot_of b n)) (bus_of b n)

-- of a UART the ring that its chardev names, if it names one
abbrev pub ring_due : Board → ℕ → Option Claimed
ring_due b n = if is_of b (codes "slot-uart") n then option_map on.Ring (option_and_then named_ring (text_at b n (codes "chardev"))) else None

-- of a DIMM the memory backend that it stands on, and the range in its registers
abbrev pub backend_due : Board → ℕ → Option Claimed
backend_due b n = if is_of b (codes "mem-dimm") n then option_map on.Backend (backend_of b n) else None

abbrev pub own_range : Board → ℕ → Option Range
own_range b n = option_and_then (λ (r : Record). slice_get (range_in r.registers) 0) (record_of b n)

abbrev pub range_due : Board → ℕ → Option Claimed
range_due b n = if is_of b (codes "mem-dimm") n then option_map on.Range (own_range b n) else None

abbrev pub claims_due : Board → ℕ → KeptSet
claims_due b n = record { slot = slot_due b n; ring = ring_due b n; backend = backend_due b n; range = range_due b n }

-- on the board that a heap shows, each body keeps the claims of its object while that is realized, and none otherwise
abbrev pub KeepsClaims : Objects → Type 0
KeepsClaims v = (b : Board) → Shows b v → KeepsDue (claims_due b) b v
