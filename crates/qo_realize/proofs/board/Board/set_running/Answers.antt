-- The board that runs, or stands still, stands.
use Rattle.qo_realize.proofs.TimeLemmas.{switched-for-good}
use Rattle.qo_realize.proofs.board.Board.set_running.Goals as goal

pub invariant_of-self : goal.invariant_of-self
invariant_of-self c =
    let inside = c.self.inside in (
      c.self.invariant.0,
      switched-for-good inside.rings inside.anonymous inside.running c.args.on inside.resets inside.hotplug inside.heap c.self.invariant.1,
      c.self.invariant.2,
      c.self.invariant.3,
      c.self.invariant.4,
    )
