-- The object at the place is of the type that is looked at.
use Rattle.std.proofs.Common.{◌≡◌, ◌≤◌, ◌&&◌, Bool, true, false, ap₂, nat_le, sym, ◌∙◌, arith}
use Rattle.std.proofs.lemmas.Bool.Decides.{nat_tests}
use Rattle.qo_heap.proofs.PlacesLemmas.{key-live}
use Rattle.qo_plug.proofs.AttemptLemmas.{bus-at}
use Rattle.qo_plug.proofs.failed_plug.new_bus_at.Goals as goal

pub kind-requires : goal.kind-requires
kind-requires g c = key-live c.args.heap.now.born c.args.heap.now.rows c.args.place c.in_ok-o.o c.reveal_invariant.ensures.rising (sym c.in_ok-o.ensures)

pub returns-then-derives_from-clause-live : goal.returns-then-derives_from-clause-live
returns-then-derives_from-clause-live g c =
    key-live c.args.heap.now.born c.args.heap.now.rows c.args.place c.in_ok-o.o c.reveal_invariant.ensures.rising (sym c.in_ok-o.ensures)

pub returns-then-derives_from-clause-bus : goal.returns-then-derives_from-clause-bus
returns-then-derives_from-clause-bus g c =
    let late : c.args.device.birth ≤ c.in_ok-o.o.birth = omega (arith, c.if-o-device.false) in
    let test : nat_le c.args.device.birth c.in_ok-o.o.birth ≡ true = grind (arith, nat_tests, late) in
    bus-at c.args.device.birth c.args.heap.now c.reveal_invariant.ensures c.args.place c.in_ok-o.o c.kind.result true c.in_ok-o.ensures c.kind.ensures.kind
    (ap₂ (λ (x y : Bool). x && y) test (sym c.derives_from.ensures ∙ c.if-derives_from.true))

pub returns-clause-bus : goal.returns-clause-bus
returns-clause-bus g c =
    let late : c.args.device.birth ≤ c.in_ok-o.o.birth = omega (arith, c.if-o-device.false) in
    let test : nat_le c.args.device.birth c.in_ok-o.o.birth ≡ true = grind (arith, nat_tests, late) in
    bus-at c.args.device.birth c.args.heap.now c.reveal_invariant.ensures c.args.place c.in_ok-o.o c.kind.result false c.in_ok-o.ensures c.kind.ensures.kind
    (ap₂ (λ (x y : Bool). x && y) test (sym c.derives_from.ensures ∙ c.if-derives_from.false))
