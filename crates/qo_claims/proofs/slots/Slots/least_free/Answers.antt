-- the first slot in order that is free is the least
use Rattle.std.proofs.Common.{Bool, not, sym, ℕ, arith, ap}
use Rattle.qo_claims.specs.Lists.{has_bus_slot, bus_slot}
use Rattle.qo_claims.proofs.LeastLemmas.{least-found, least-none}
use Rattle.qo_claims.proofs.slots.Slots.least_free.Goals as goal

pub returns-then-not-has : goal.returns-then-not-has
returns-then-not-has c =
    let test : ℕ → Bool = λ slot. not (has_bus_slot (bus_slot c.args.bus slot) c.args.self.now) in
    sym (least-found test 0 8 c.loop-slot.slot (omega arith) (omega arith) (ap not (sym c.if-not-has.ensures))
    (λ lower from low. ap not (c.loop-slot.invariant lower low)))

pub returns : goal.returns
returns c =
    let test : ℕ → Bool = λ slot. not (has_bus_slot (bus_slot c.args.bus slot) c.args.self.now) in
    sym (least-none test 0 8 (λ slot from below. ap not (c.loop-slot.invariant slot (omega arith))))
