-- The slots are looked at one after another.
use Rattle.std.proofs.Common.{◌<◌, List, ℕ, None, length, sym, ◌∙◌, arith}
use Rattle.qo_object.specs.declared.slots.SlotView.{SlotView}
use Rattle.qo_model.specs.Board.{Slot, slots_at}
use Rattle.qo_model.specs.Devices.{kids_of, strong_in}
use Rattle.qo_heap.specs.Objects.{slots_of}
use Rattle.qo_buses.proofs.KidLemmas.{given-here, given-next, given-none, none-at, some-within}
use Rattle.qo_buses.proofs.SlotLemmas.{shows-place_at}
use Rattle.qo_buses.proofs.kids.first_kid.Goals as goal

pub returns-in-Some-clause-kid : goal.returns-in-Some-clause-kid
returns-in-Some-clause-kid g c = λ b s.
    given-here (λ (t : List ℕ × Slot). strong_in t.1) (slots_at b c.args.bus.birth) c.loop-bus.at (kids_of b c.args.bus.birth) (c.loop-bus.invariant b s)
    c.in-Some.kid.birth (c.in-Some.ensures.kid b s)

pub loop-bus-smaller : goal.loop-bus-smaller
loop-bus-smaller g c =
    let within : c.loop-bus.at < length (slots_of c.args.heap.now c.args.bus.birth) =
    some-within (λ (v : SlotView). (v.name.now, v.what.now)) c.slot_at.result (slots_of c.args.heap.now c.args.bus.birth) c.loop-bus.at
    c.slot_at.ensures.slot (sym c.is_some.ensures ∙ c.loop-bus-test.true) in
    omega arith

pub loop-bus-preserved : goal.loop-bus-preserved
loop-bus-preserved g c = λ b s.
    given-next (λ (t : List ℕ × Slot). strong_in t.1) (slots_at b c.args.bus.birth) c.loop-bus.at (kids_of b c.args.bus.birth) (c.loop-bus.invariant b s)
    (c.in_default.ensures.kid b s)

pub returns-clause-kid : goal.returns-clause-kid
returns-clause-kid g c = λ b s.
    let none =
    none-at (λ (v : SlotView). (v.name.now, v.what.now)) c.slot_at.result (slots_of c.args.heap.now c.args.bus.birth) c.loop-bus.at
    c.slot_at.ensures.slot (sym c.is_some.ensures ∙ c.loop-bus-test.false) in
    given-none (λ (t : List ℕ × Slot). strong_in t.1) (slots_at b c.args.bus.birth) c.loop-bus.at (kids_of b c.args.bus.birth) (c.loop-bus.invariant b s)
    (shows-place_at b c.args.heap.now s c.args.bus.birth c.loop-bus.at None (sym none))
