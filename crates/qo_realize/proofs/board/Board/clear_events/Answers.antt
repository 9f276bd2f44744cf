-- The board without its events stands.
use Rattle.std.proofs.Common.{refl, sym, subst, []}
use Rattle.qo_heap.specs.Objects.{Objects}
use Rattle.qo_properties.specs.Pins.{OnlyRootPinned}
use Rattle.qo_realize.specs.Parts.{parts_of}
use Rattle.qo_realize.specs.Representation.{StandsForGood}
use Rattle.qo_realize.proofs.GoodBoardLemmas.{cleared-good}
use Rattle.qo_realize.proofs.RepresentationLemmas.{cleared-stands}
use Rattle.qo_events.specs.Queue.{cleared}
use Rattle.qo_realize.specs.BoardClaims.{KeepsClaims}
use Rattle.qo_realize.proofs.ClaimsLemmas.{rows-claims}
use Rattle.qo_reset.specs.Counts.{CountsKept}
use Rattle.qo_realize.proofs.CountedLemmas.{rows-counts}
use Rattle.qo_clocks.specs.Kept.{PeriodsKept}
use Rattle.qo_realize.proofs.PeriodLemmas.{rows-periods}
use Rattle.qo_realize.proofs.board.Board.clear_events.Goals as goal

pub invariant_of-self : goal.invariant_of-self
invariant_of-self c =
    let (b, s, sound) = c.self.invariant.1 in
    let inside = c.self.inside in
    let v : Objects = inside.heap in
    subst
    (λ (w : Objects). OnlyRootPinned w × StandsForGood (parts_of inside.rings inside.anonymous inside.running inside.resets inside.hotplug w)
    × KeepsClaims w × CountsKept inside.resets.births w × PeriodsKept w)
    (sym c.clear_events.ensures) (
      c.self.invariant.0,
      (
        record b { events = [] },
        cleared-stands b inside.rings inside.anonymous inside.running inside.resets inside.hotplug v s,
        cleared-good b sound,
      ),
      rows-claims b v (record v { events = cleared v.events }) s.shows refl c.self.invariant.2,
      rows-counts inside.resets.births v (record v { events = cleared v.events }) refl c.self.invariant.3,
      rows-periods v (record v { events = cleared v.events }) refl c.self.invariant.4,
    )
