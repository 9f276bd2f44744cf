-- A slot more is looked at in each turn.
use Rattle.std.proofs.Common.{◌<◌, ◌≡◌, None, length, slice_get, sym, ap, ◌∙◌, List, arith}
use Rattle.qo_object.specs.declared.slots.SlotView.{SlotView}
use Rattle.qo_object.specs.Slots.{Named}
use Rattle.qo_heap.specs.Objects.{slots_of}
use Rattle.qo_heap.proofs.ActsReads.{acts-slots}
use Rattle.qo_buses.proofs.KidLemmas.{none-at, some-within}
use Rattle.qo_buses.proofs.SlotLemmas.{shows-place_at}
use Rattle.qo_plug.proofs.StartLemmas.{realized-all, realized-more, still-live}
use Rattle.qo_plug.proofs.starting.realize_buses.Goals as goal

pub slot_at-requires : goal.slot_at-requires
slot_at-requires g c = still-live c.args.heap.now c.loop-device.heap c.loop-device.invariant.acts c.args.device c.requires

pub realize_at-requires : goal.realize_at-requires
realize_at-requires g c = still-live c.args.heap.now c.loop-device.heap c.loop-device.invariant.acts c.args.device c.requires

pub loop-device-smaller : goal.loop-device-smaller
loop-device-smaller g c =
    let within : c.loop-device.at < length (slots_of c.loop-device.heap c.args.device.birth) =
    some-within (λ (v : SlotView). (v.name.now, v.what.now)) c.slot_at.result (slots_of c.loop-device.heap c.args.device.birth) c.loop-device.at
    c.slot_at.ensures.slot (sym c.is_some.ensures ∙ c.loop-device-test.true) in
    let same = ap (λ (l : List Named). length l) (acts-slots c.args.heap.now c.loop-device.heap c.loop-device.invariant.acts c.args.device.birth) in
    omega (arith, within, same)

pub loop-device-preserved : goal.loop-device-preserved
loop-device-preserved g c =
    realized-more c.args.device.birth c.loop-device.at c.args.heap.now c.loop-device.heap c.realize_at.new.heap c.loop-device.invariant
    c.realize_at.ensures.shown c.realize_at.ensures.acts c.realize_at.ensures.counts c.realize_at.ensures.periods

pub returns-clause-shown : goal.returns-clause-shown
returns-clause-shown g c = λ b s.
    let none : slice_get (slots_of c.loop-device.heap c.args.device.birth) c.loop-device.at ≡ None =
    none-at (λ (v : SlotView). (v.name.now, v.what.now)) c.slot_at.result (slots_of c.loop-device.heap c.args.device.birth) c.loop-device.at
    c.slot_at.ensures.slot (sym c.is_some.ensures ∙ c.loop-device-test.false) in
    let end : slice_get (slots_of c.args.heap.now c.args.device.birth) c.loop-device.at ≡ None =
    ap (λ (l : List Named). slice_get l c.loop-device.at)
    (sym (acts-slots c.args.heap.now c.loop-device.heap c.loop-device.invariant.acts c.args.device.birth)) ∙ none in
    realized-all c.args.device.birth c.loop-device.at c.args.heap.now c.loop-device.heap c.loop-device.invariant b s
    (shows-place_at b c.args.heap.now s c.args.device.birth c.loop-device.at None (sym end))
