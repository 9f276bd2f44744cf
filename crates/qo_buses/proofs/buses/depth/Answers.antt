-- Each turn goes on to the bus above.
use Rattle.std.proofs.Common.{length, sym}
use Rattle.qo_paths.proofs.PlaceLemmas.{within}
use Rattle.qo_buses.proofs.WayLemmas.{depth-first, depth-top, depth-up}
use Rattle.qo_model.specs.Devices.{depth_of}
use Rattle.qo_buses.proofs.buses.depth.Goals as goal

pub loop-turn-init : goal.loop-turn-init
loop-turn-init g c = λ b s. depth-first b c.args.heap.now s c.args.bus.birth

pub returns-in-None : goal.returns-in-None
returns-in-None g c = λ b s.
    let below = within c.loop-turn.turn c.live-turn-end.result (length c.args.heap.now.rows) c.loop-turn-test.true c.live-turn-end.ensures in
    depth-top b (length c.args.heap.now.rows) c.loop-turn.turn c.loop-turn.at.birth (depth_of b c.args.bus.birth) below (sym (c.in-None.ensures.bus b s))
    (c.loop-turn.invariant b s)

pub loop-turn-preserved : goal.loop-turn-preserved
loop-turn-preserved g c = λ b s.
    let below = within c.loop-turn.turn c.live-turn-end.result (length c.args.heap.now.rows) c.loop-turn-test.true c.live-turn-end.ensures in
    depth-up b (length c.args.heap.now.rows) c.loop-turn.turn c.loop-turn.at.birth c.in-Some.above.birth (depth_of b c.args.bus.birth) below
    (sym (c.in-Some.ensures.bus b s)) (c.loop-turn.invariant b s)
