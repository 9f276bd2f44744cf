-- For proofs alone. That what a device is to claim is held by no other.
use Rattle.std.specs.Prelude.{◌≡◌, ℕ, ◌≤◌, List, true, false, Option, IfSome}
use Rattle.qo_values.specs.Placing.{is_in_window}
use Rattle.qo_claims.specs.Book.{ClaimsTaken, is_taken}
use Rattle.qo_claims.specs.Lists.{bus_slot}
use Rattle.qo_claims.specs.declared.claims.Claimed.TheVariants as on
use Rattle.qo_plug.specs.declared.resources.Memory.{Memory}
use Rattle.qo_plug.specs.declared.resources.Resources.{Resources}

-- its id, if it has one
abbrev pub IsFreeId : Option (List ℕ) → ClaimsTaken → Type 0
IsFreeId id h = IfSome id (λ (i : List ℕ). is_taken (on.Device i) h ≡ false)

-- its resources: the slot, the ring of a UART, and the memory backend of a DIMM with a range of the window that is not empty
pub record AreFreeResources (bus : ℕ) (s : Resources) (h : ClaimsTaken) : Type 0 where
  pub slot : is_taken (on.Slot (bus_slot bus s.slot)) h ≡ false
  pub ring : IfSome s.ring (λ (i : List ℕ). is_taken (on.Ring i) h ≡ false)
  pub backend : IfSome s.memory (λ (m : Memory). is_taken (on.Backend m.backend) h ≡ false)
  pub range : IfSome s.memory (λ (m : Memory). is_taken (on.Range m.range) h ≡ false)
  pub window : IfSome s.memory (λ (m : Memory). is_in_window m.range ≡ true)
  pub size : IfSome s.memory (λ (m : Memory). 1 ≤ m.range.size)
