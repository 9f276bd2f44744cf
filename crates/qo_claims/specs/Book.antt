-- For proofs alone. What is held, and claims on it.
use Rattle.std.specs.Prelude.{ℕ, Bool, List, [], ◌∷◌, ◌++◌}
use Rattle.qo_values.specs.declared.ranges.Range.{Range}
use Rattle.qo_values.specs.Placing.{overlaps_any}
use Rattle.qo_claims.specs.declared.claims.Claimed.{Claimed}
use Rattle.qo_claims.specs.declared.claims.Claimed.TheVariants as on
use Rattle.qo_claims.specs.declared.slots.BusSlot.{BusSlot}
use Rattle.qo_claims.specs.Lists.{has_id, without_id, has_birth, without_birth, has_bus_slot, without_bus_slot, with_range, without_range}

-- all that is held: device ids, slots of buses, rings, memory backends by birth, each in the order of the claims; and
-- ranges of addresses, by rising addresses
pub record ClaimsTaken : Type 0 where
  pub devices : List (List ℕ)
  pub slots : List BusSlot
  pub rings : List (List ℕ)
  pub backends : List ℕ
  pub ranges : List Range

-- nothing is held
abbrev pub nothing_taken : ClaimsTaken
nothing_taken = record { devices = []; slots = []; rings = []; backends = []; ranges = [] }

-- it is held; of a range, one that is taken overlaps it
abbrev pub is_taken : Claimed → ClaimsTaken → Bool
is_taken (on.Device id) h = has_id id h.devices
is_taken (on.Slot s) h = has_bus_slot s h.slots
is_taken (on.Ring id) h = has_id id h.rings
is_taken (on.Backend birth) h = has_birth birth h.backends
is_taken (on.Range r) h = overlaps_any r h.ranges

-- one claim more is held
abbrev pub with_claim : Claimed → ClaimsTaken → ClaimsTaken
with_claim (on.Device id) h = record h { devices = h.devices ++ id ∷ [] }
with_claim (on.Slot s) h = record h { slots = h.slots ++ s ∷ [] }
with_claim (on.Ring id) h = record h { rings = h.rings ++ id ∷ [] }
with_claim (on.Backend birth) h = record h { backends = h.backends ++ birth ∷ [] }
with_claim (on.Range r) h = record h { ranges = with_range r h.ranges }

-- one claim less is held, where it is taken
abbrev pub without_claim : Claimed → ClaimsTaken → ClaimsTaken
without_claim (on.Device id) h = record h { devices = without_id id h.devices }
without_claim (on.Slot s) h = record h { slots = without_bus_slot s h.slots }
without_claim (on.Ring id) h = record h { rings = without_id id h.rings }
without_claim (on.Backend birth) h = record h { backends = without_birth birth h.backends }
without_claim (on.Range r) h = record h { ranges = without_range r h.ranges }

-- the slot or the address that is claimed, and 0 of any other claim
abbrev pub at_of : Claimed → ℕ
at_of (on.Slot s) = s.slot
at_of (on.Range r) = r.at
at_of _ = 0

-- the size of the range that is claimed, and 0 of any other claim
abbrev pub size_of : Claimed → ℕ
size_of (on.Range r) = r.size
size_of _ = 0
