use Rattle.std.proofs.Common.{◌≡◌, ℕ, ◌<◌, true}
use Rattle.qo_claims.specs.Lists.{has_bus_slot, bus_slot}
use Rattle.qo_claims.proofs.slots.Slots.least_free.Given as goal

abbrev pub invariant-loop-slot : goal.invariant-loop-slot
invariant-loop-slot l = (k : ℕ) → k < l.slot → has_bus_slot (bus_slot l.bus k) l.self ≡ true
