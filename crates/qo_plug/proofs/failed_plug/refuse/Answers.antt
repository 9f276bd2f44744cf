-- The pin goes, and nothing holds the device.
use Rattle.std.proofs.Common.{◌≡◌, ℕ, ap, subst, ◌∙◌, arith}
use Rattle.qo_model.specs.Release.{unpin}
use Rattle.qo_heap.specs.Board.{Shows}
use Rattle.qo_heap.specs.Objects.{pins_of}
use Rattle.qo_heap.proofs.ActsLemmas.{acts-book}
use Rattle.qo_heap.proofs.ActsReads.{acts-pins_of}
use Rattle.qo_plug.specs.Attempts.{passed_on}
use Rattle.qo_plug.proofs.AttemptLemmas.{leaves-live, passed-leaves, refused-late}
use Rattle.qo_properties.proofs.ActsKept.{acts-kept}
use Rattle.qo_properties.proofs.KeptLemmas.{before-same, before-then, goes-kept}
use Rattle.qo_plug.proofs.failed_plug.refuse.Goals as goal

pub drop_pin-requires-clause-live : goal.drop_pin-requires-clause-live
drop_pin-requires-clause-live g c =
    leaves-live c.args.heap.now c.pass.new.heap (passed-leaves c.args.out c.args.device.birth c.args.heap.now c.pass.new.heap c.pass.ensures) c.args.device
    c.requires.live

pub drop_pin-requires-clause-pinned : goal.drop_pin-requires-clause-pinned
drop_pin-requires-clause-pinned g c =
    let same : pins_of c.pass.new.heap c.args.device.birth ≡ pins_of c.args.heap.now c.args.device.birth =
    acts-pins_of c.args.heap.now c.pass.new.heap (passed-leaves c.args.out c.args.device.birth c.args.heap.now c.pass.new.heap c.pass.ensures).acts
    c.args.device.birth in
    omega (arith, same, c.requires.pinned)

pub returns-clause-shown : goal.returns-clause-shown
returns-clause-shown g c = λ b t props bus sound birth is s.
    refused-late b t sound props bus c.args.out c.args.heap.now c.pass.new.heap c.drop_pin.new.heap is s
    (c.pass.ensures ∙ ap (λ (n : ℕ). passed_on c.args.out n c.args.heap.now) birth)
    (λ d shown. subst (λ (n : ℕ). Shows (unpin d n) c.drop_pin.new.heap) birth (c.drop_pin.ensures.release d shown))

pub returns-clause-book : goal.returns-clause-book
returns-clause-book g c = λ out h.
    c.drop_pin.ensures.goes.book out
    (acts-book out c.args.heap.now c.pass.new.heap (passed-leaves c.args.out c.args.device.birth c.args.heap.now c.pass.new.heap c.pass.ensures).acts h)

pub returns-clause-kept : goal.returns-clause-kept
returns-clause-kept g c =
    before-then c.args.heap.now c.pass.new.heap c.drop_pin.new.heap
    (before-same c.args.heap.now c.pass.new.heap
    (acts-kept c.args.heap.now c.pass.new.heap (passed-leaves c.args.out c.args.device.birth c.args.heap.now c.pass.new.heap c.pass.ensures).acts
    (passed-leaves c.args.out c.args.device.birth c.args.heap.now c.pass.new.heap c.pass.ensures).counts
    (passed-leaves c.args.out c.args.device.birth c.args.heap.now c.pass.new.heap c.pass.ensures).periods))
    (goes-kept c.pass.new.heap c.drop_pin.new.heap c.drop_pin.ensures.goes)
