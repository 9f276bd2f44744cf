-- The board without the hold stands, or the board as it was.
use Rattle.std.proofs.Common.{sym, subst}
use Rattle.qo_realize.specs.Parts.{Parts}
use Rattle.qo_realize.specs.Representation.{Stands}
use Rattle.qo_realize.proofs.HoldLemmas.{acts-keep, release-answers, release-claims, release-keeps}
use Rattle.qo_realize.proofs.PeriodLemmas.{acts-periods}
use Rattle.qo_realize.proofs.board.Board.release.Goals as goal

pub invariant_of-self : goal.invariant_of-self
invariant_of-self g c =
    let inside = c.self.inside in
    let stands =
    release-keeps inside.rings inside.anonymous inside.running inside.resets c.release.new.resets inside.hotplug inside.heap c.release.new.heap
    (acts-keep inside.heap c.release.new.heap c.release.ensures.acts) c.args.path.now
    c.release.result c.self.invariant.1 c.release.ensures.released c.release.ensures.err in (
      stands.0,
      stands.1,
      release-claims inside.rings inside.anonymous inside.running inside.resets c.release.new.resets inside.hotplug inside.heap c.release.new.heap
          (acts-keep inside.heap c.release.new.heap c.release.ensures.acts) c.args.path.now c.release.result c.self.invariant.1 c.release.ensures.acts
          c.release.ensures.released c.release.ensures.err c.self.invariant.2,
      c.release.ensures.counts,
      acts-periods inside.heap c.release.new.heap c.release.ensures.acts c.release.ensures.periods c.self.invariant.4,
    )

pub returns-clause-released : goal.returns-clause-released
returns-clause-released g c = λ b s.
    let inside = c.self.inside in
    let seen = subst (λ (p : Parts). Stands b p) (sym c.self.view_is) s in
    release-answers inside.rings inside.anonymous inside.running inside.resets c.release.new.resets inside.hotplug inside.heap c.release.new.heap
    (acts-keep inside.heap c.release.new.heap c.release.ensures.acts) b c.args.path.now
    c.release.result seen (c.release.ensures.released b (seen.shows, seen.holds)) c.release.ensures.err
