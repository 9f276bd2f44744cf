-- The slots are looked at one after another.
use Rattle.std.proofs.Common.{◌<◌, None, length, sym, ◌∙◌, arith}
use Rattle.qo_object.specs.declared.slots.SlotView.{SlotView}
use Rattle.qo_model.specs.Board.{slots_at}
use Rattle.qo_model.specs.Devices.{bus_in, buses_of}
use Rattle.qo_heap.specs.Objects.{slots_of}
use Rattle.qo_buses.proofs.KidLemmas.{first-is, given-here, given-next, given-none, none-at, some-within}
use Rattle.qo_buses.proofs.SlotLemmas.{shows-place_at}
use Rattle.qo_buses.proofs.buses.first_bus.Goals as goal

pub returns-in-Some-clause-bus : goal.returns-in-Some-clause-bus
returns-in-Some-clause-bus g c = λ b s.
    given-here (bus_in b) (slots_at b c.args.dev.birth) c.loop-dev.at (buses_of b c.args.dev.birth) (c.loop-dev.invariant b s) c.in-Some.bus.birth
    (c.in-Some.ensures.bus b s) ∙ first-is b c.args.dev.birth

pub loop-dev-smaller : goal.loop-dev-smaller
loop-dev-smaller g c =
    let within : c.loop-dev.at < length (slots_of c.args.heap.now c.args.dev.birth) =
    some-within (λ (v : SlotView). (v.name.now, v.what.now)) c.slot_at.result (slots_of c.args.heap.now c.args.dev.birth) c.loop-dev.at
    c.slot_at.ensures.slot (sym c.is_some.ensures ∙ c.loop-dev-test.true) in
    omega arith

pub loop-dev-preserved : goal.loop-dev-preserved
loop-dev-preserved g c = λ b s.
    given-next (bus_in b) (slots_at b c.args.dev.birth) c.loop-dev.at (buses_of b c.args.dev.birth) (c.loop-dev.invariant b s) (c.in_default.ensures.bus b s)

pub returns-clause-bus : goal.returns-clause-bus
returns-clause-bus g c = λ b s.
    let none =
    none-at (λ (v : SlotView). (v.name.now, v.what.now)) c.slot_at.result (slots_of c.args.heap.now c.args.dev.birth) c.loop-dev.at
    c.slot_at.ensures.slot (sym c.is_some.ensures ∙ c.loop-dev-test.false) in
    given-none (bus_in b) (slots_at b c.args.dev.birth) c.loop-dev.at (buses_of b c.args.dev.birth) (c.loop-dev.invariant b s)
    (shows-place_at b c.args.heap.now s c.args.dev.birth c.loop-dev.at None (sym none)) ∙ first-is b c.args.dev.birth
