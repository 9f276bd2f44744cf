-- One more, or the first that is refused.
use Rattle.std.proofs.Common.{◌≡◌, ◌≤◌, ◌<◌, Err, ◌∙◌, arith, rules}
use Rattle.qo_save.specs.Rebuilding.{factor_steps}
use Rattle.qo_shape.specs.Said.{clock_said}
use Rattle.qo_rebuild.proofs.StepLemmas.{went-none}
use Rattle.qo_rebuild.proofs.StepLemmas.{flat-all, flat-next, flat-stops}
use Rattle.qo_rebuild.proofs.clocks.scale_clocks.Goals as goal

pub loop-clock-init : goal.loop-clock-init
loop-clock-init g c = λ b s. went-none b c.args.board.now s

pub returns-in_err-scale_clock : goal.returns-in_err-scale_clock
returns-in_err-scale_clock g c = λ b s.
    let is : c.from_residual.result ≡ Err c.in_err-scale_clock.field-0.0 = search rules in
    flat-stops factor_steps clock_said c.args.clocks.now c.loop-clock.clock-index c.clock-item.result (omega arith) c.clock-item.is b c.loop-clock.board
    c.scale_clock.new.board
    c.from_residual.result c.in_err-scale_clock.field-0.0 (c.loop-clock.invariant b s) is c.in_err-scale_clock.ensures

pub loop-clock-preserved : goal.loop-clock-preserved
loop-clock-preserved g c = λ b s.
    flat-next factor_steps clock_said c.args.clocks.now c.loop-clock.clock-index c.clock-item.result (omega arith) c.clock-item.is b c.loop-clock.board
    c.scale_clock.new.board
    (c.loop-clock.invariant b s) c.in_ok-scale_clock.ensures

pub returns : goal.returns
returns g c = λ b s.
    flat-all factor_steps clock_said c.args.clocks.now c.loop-clock.clock-index (omega arith) b c.loop-clock.board (c.loop-clock.invariant b s)
