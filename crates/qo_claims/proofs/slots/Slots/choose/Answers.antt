-- the least free slot is free
use Rattle.std.proofs.Common.{Bool, not, sym, ℕ}
use Rattle.qo_claims.specs.Lists.{has_bus_slot, bus_slot}
use Rattle.std.proofs.lemmas.Bool.{not-true}
use Rattle.qo_values.proofs.PlacingLemmas.{least-passes}
use Rattle.qo_claims.proofs.slots.Slots.choose.Goals as goal

pub returns-in-Some-least_free-clause-free : goal.returns-in-Some-least_free-clause-free
returns-in-Some-least_free-clause-free c =
    let test : ℕ → Bool = λ slot. not (has_bus_slot (bus_slot c.args.bus slot) c.args.self.now) in
    not-true (has_bus_slot (bus_slot c.args.bus c.in-Some-least_free.slot) c.args.self.now)
    (least-passes test 0 8 c.in-Some-least_free.slot (sym c.in-Some-least_free.ensures))
