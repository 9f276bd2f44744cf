-- One more, or the first that is refused.
use Rattle.std.proofs.Common.{◌≡◌, ◌≤◌, ◌<◌, Err, ◌∙◌, arith, rules}
use Rattle.qo_save.specs.Rebuilding.{set_link}
use Rattle.qo_shape.specs.Said.{link_said}
use Rattle.qo_rebuild.proofs.StepLemmas.{went-none}
use Rattle.qo_rebuild.proofs.StepLemmas.{list-all, list-next, list-stops}
use Rattle.qo_rebuild.proofs.links.set_links.Goals as goal

pub loop-link-init : goal.loop-link-init
loop-link-init g c = λ b s. went-none b c.args.board.now s

pub returns-in_err-set_link : goal.returns-in_err-set_link
returns-in_err-set_link g c = λ b s.
    let is : c.from_residual.result ≡ Err c.in_err-set_link.field-0.0 = search rules in
    list-stops set_link link_said c.args.links.now c.loop-link.link-index c.link-item.result (omega arith) c.link-item.is b c.loop-link.board
    c.set_link.new.board
    c.from_residual.result c.in_err-set_link.field-0.0 (c.loop-link.invariant b s) is c.in_err-set_link.ensures

pub loop-link-preserved : goal.loop-link-preserved
loop-link-preserved g c = λ b s.
    list-next set_link link_said c.args.links.now c.loop-link.link-index c.link-item.result (omega arith) c.link-item.is b c.loop-link.board
    c.set_link.new.board
    (c.loop-link.invariant b s) c.in_ok-set_link.ensures

pub returns : goal.returns
returns g c = λ b s.
    list-all set_link link_said c.args.links.now c.loop-link.link-index (omega arith) b c.loop-link.board (c.loop-link.invariant b s)
