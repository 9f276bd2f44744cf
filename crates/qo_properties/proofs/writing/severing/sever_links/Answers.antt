-- The links are let go one after another.
use Rattle.std.proofs.Common.{◌≤◌, ◌∙◌, arith}
use Rattle.qo_object.specs.Content.{with_pin}
use Rattle.qo_heap.proofs.HeapLemmas.{live-edit}
use Rattle.qo_properties.proofs.SeveringLemmas.{pinned-slots, severing-first, severing-last, severing-next, severing-pinned}
use Rattle.qo_properties.proofs.writing.severing.sever_links.Goals as goal

pub slot_count-count-requires : goal.slot_count-count-requires
slot_count-count-requires g c = rw c.pin.ensures.now (live-edit c.args.o.birth with_pin c.args.heap.now.rows c.args.o c.requires.live)

pub loop-at-init : goal.loop-at-init
loop-at-init g c = severing-first c.args.heap.now c.pin.new.self c.reveal_invariant.ensures c.args.o c.slot_count-count.result c.requires.live c.pin.ensures.now

pub loop-at-preserved : goal.loop-at-preserved
loop-at-preserved g c = severing-next c.args.heap.now c.loop-at.heap c.sever_at.new.heap c.args.o c.slot_count-count.result c.loop-at.at c.loop-at.invariant
    c.loop-at-test.true c.sever_at.ensures

pub drop_pin-requires-clause-pinned : goal.drop_pin-requires-clause-pinned
drop_pin-requires-clause-pinned g c =
    severing-pinned c.args.heap.now c.loop-at.heap c.args.o c.slot_count-count.result c.loop-at.at c.reveal_invariant-2.ensures c.loop-at.invariant

pub returns : goal.returns
returns g c = severing-last c.args.heap.now c.loop-at.heap c.drop_pin.new.heap c.args.o c.slot_count-count.result c.loop-at.at c.loop-at.invariant
    (let low : c.loop-at.at ≤ c.slot_count-count.result = c.loop-at.auto.at-end in let high : c.slot_count-count.result ≤ c.loop-at.at = c.loop-at-test.false in
    omega arith) (c.slot_count-count.ensures.count ∙ pinned-slots c.args.heap.now c.pin.new.self c.args.o.birth c.pin.ensures.now) c.drop_pin.ensures.goes
