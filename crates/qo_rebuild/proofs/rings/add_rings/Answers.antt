-- One more, or the first that is refused.
use Rattle.std.proofs.Common.{◌≡◌, ◌≤◌, ◌<◌, Err, ◌∙◌, arith, rules}
use Rattle.qo_save.specs.Rebuilding.{add_ring}
use Rattle.qo_shape.specs.Said.{ring_said}
use Rattle.qo_rebuild.proofs.StepLemmas.{went-none}
use Rattle.qo_rebuild.proofs.StepLemmas.{list-all, list-next, list-stops}
use Rattle.qo_rebuild.proofs.rings.add_rings.Goals as goal

pub loop-ring-init : goal.loop-ring-init
loop-ring-init c = λ b s. went-none b c.args.board.now s

pub returns-in_err-add_ring : goal.returns-in_err-add_ring
returns-in_err-add_ring c = λ b s.
    let is : c.from_residual.result ≡ Err c.in_err-add_ring.field-0.0 = search rules in
    list-stops add_ring ring_said c.args.rings.now c.loop-ring.ring-index c.ring-item.result (omega arith) c.ring-item.is b c.loop-ring.board
    c.add_ring.new.board
    c.from_residual.result c.in_err-add_ring.field-0.0 (c.loop-ring.invariant b s) is c.in_err-add_ring.ensures

pub loop-ring-preserved : goal.loop-ring-preserved
loop-ring-preserved c = λ b s.
    list-next add_ring ring_said c.args.rings.now c.loop-ring.ring-index c.ring-item.result (omega arith) c.ring-item.is b c.loop-ring.board
    c.add_ring.new.board
    (c.loop-ring.invariant b s) c.in_ok-add_ring.ensures

pub returns : goal.returns
returns c = λ b s.
    list-all add_ring ring_said c.args.rings.now c.loop-ring.ring-index (omega arith) b c.loop-ring.board (c.loop-ring.invariant b s)
