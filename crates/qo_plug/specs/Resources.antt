-- For proofs alone. What a device that is given properties claims in its place on a bus: its slot, a ring, a memory backend, a range (docs/PROFILE.md, rings
-- and DIMMs).
use Rattle.std.specs.Prelude.{◌≡◌, ℕ, ◌≤◌, List, true, false, codes, Option, Some, None, option_map}
use Rattle.qo_claims.specs.Book.{ClaimsTaken, is_taken}
use Rattle.qo_claims.specs.Lists.{bus_slot}
use Rattle.qo_claims.specs.declared.claims.Claimed.TheVariants as on
use Rattle.qo_kinds.specs.declared.kept_set.KeptSet.{KeptSet}
use Rattle.qo_values.specs.Placing.{is_in_window}
use Rattle.qo_values.specs.declared.kinds.TypeId.{TypeId}
use Rattle.qo_values.specs.declared.kinds.TypeId.TheVariants.{MemDimm, MemoryBackend, SlotUart}
use Rattle.qo_model.specs.Board.{Board}
use Rattle.qo_model.specs.Objects.{Given}
use Rattle.qo_model.specs.Plug.{range_of, resources_of, target_for, text_for}
use Rattle.qo_buses.specs.Rings.{named_ring}
use Rattle.qo_plug.specs.declared.resources.Memory.{Memory}
use Rattle.qo_plug.specs.declared.resources.Resources.{Resources}
use Rattle.qo_plug.specs.Placement.{resources_in}

-- of a UART the ring that its chardev names, if it names one
abbrev pub ring_given : TypeId → List Given → Option (List ℕ)
ring_given SlotUart props = named_ring (text_for props (codes "chardev"))
ring_given t props = None

-- of a DIMM the memory backend that its memdev names
abbrev pub backend_given : Board → TypeId → List Given → Option ℕ
backend_given b MemDimm props = target_for b MemoryBackend props (codes "memdev")
backend_given b t props = None

-- its claims on a bus: on its slot, its ring, its memory backend and its range
abbrev pub claims_given : Board → TypeId → ℕ → List Given → KeptSet
claims_given b t bus props =
    record {
      slot = Some (on.Slot (bus_slot bus (resources_of b t bus props).slot));
      ring = option_map on.Ring (ring_given t props);
      backend = option_map on.Backend (backend_given b t props);
      range = option_map on.Range (range_of b t props);
    }

-- resources are those that a device of a type with these properties has on a bus
pub record IsChosen (b : Board) (t : TypeId) (bus : ℕ) (props : List Given) (c : Resources) : Type 0 where
  pub resources : resources_of b t bus props ≡ resources_in bus c
  pub ring : c.ring ≡ ring_given t props
  pub backend : option_map (λ (m : Memory). m.backend) c.memory ≡ backend_given b t props

-- a memory of a DIMM that no other has: its backend is free, and so is its range, which lies in the window and is not empty
pub record IsFreeMemory (m : Memory) (h : ClaimsTaken) : Type 0 where
  pub backend : is_taken (on.Backend m.backend) h ≡ false
  pub range : is_taken (on.Range m.range) h ≡ false
  pub window : is_in_window m.range ≡ true
  pub size : 1 ≤ m.range.size
