-- The board without the notice stands.
use Rattle.std.proofs.Common.{sym, subst}
use Rattle.qo_hotplug.specs.Hotplug.{Asked}
use Rattle.qo_realize.specs.Parts.{parts_of}
use Rattle.qo_realize.specs.Representation.{StandsForGood}
use Rattle.qo_realize.specs.Guest.{polled}
use Rattle.qo_realize.proofs.RemovalLemmas.{polled-stands}
use Rattle.qo_realize.proofs.GoodBoardLemmas.{polled-good}
use Rattle.qo_realize.proofs.board.Board.poll.Goals as goal

pub invariant_of-self : goal.invariant_of-self
invariant_of-self c =
    let (b, s, sound) = c.self.invariant.1 in
    let inside = c.self.inside in (
      c.self.invariant.0,
      subst (λ (h : Asked). StandsForGood (parts_of inside.rings inside.anonymous inside.running inside.resets h inside.heap)) (sym c.poll.ensures.rest)
          (polled b, polled-stands b inside.rings inside.anonymous inside.running inside.resets inside.hotplug inside.heap s, polled-good b sound),
      c.self.invariant.2,
      c.self.invariant.3,
      c.self.invariant.4,
    )
