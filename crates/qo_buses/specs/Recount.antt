-- For proofs alone. What the book of claims tells of a board: who has an id, a slot of a bus, a ring, a memory backend or a range (docs/PROFILE.md).
use Rattle.std.specs.Prelude.{◌≡◌, ◌≢◌, ◌<◌, ℕ, List, [], true, not}
use Rattle.std.specs.List.{list_any}
use Rattle.qo_values.specs.Placing.{overlaps_any}
use Rattle.qo_values.specs.declared.kinds.TypeId.{TypeId}
use Rattle.qo_values.specs.declared.limits.TheConstants.{BUS_SLOTS}
use Rattle.qo_values.specs.declared.ranges.Range.{Range}
use Rattle.qo_claims.specs.Book.{ClaimsTaken, is_taken}
use Rattle.qo_claims.specs.Lists.{bus_slot}
use Rattle.qo_claims.specs.declared.claims.Claimed.TheVariants as on
use Rattle.qo_model.specs.Board.{Board}
use Rattle.qo_model.specs.Devices.{device_named}
use Rattle.qo_model.specs.Paths.{is_of}
use Rattle.qo_model.specs.Plug.{bus_type, claims_ring, dimms, has_backend, is_free, ranges_of}

-- what is held is what the objects of the board have; the empty text is the id of no ring
pub record IsRecounted (b : Board) (h : ClaimsTaken) : Type 0 where
  pub ids : (id : List ℕ) → is_taken (on.Device id) h ≡ device_named b id
  pub slots : (t : TypeId) (bus slot : ℕ) → is_of b (bus_type t) bus ≡ true → slot < BUS_SLOTS
      → is_taken (on.Slot (bus_slot bus slot)) h ≡ not (is_free b bus slot)
  pub rings : (id : List ℕ) → id ≢ [] → is_taken (on.Ring id) h ≡ list_any (claims_ring b id) b.records
  pub backends : (birth : ℕ) → is_taken (on.Backend birth) h ≡ list_any (has_backend b birth) (dimms b)
  pub ranges : (r : Range) → is_taken (on.Range r) h ≡ overlaps_any r (ranges_of b)
