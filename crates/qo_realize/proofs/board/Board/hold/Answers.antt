-- The board with the hold stands, or the board as it was.
use Rattle.std.proofs.Common.{sym, subst}
use Rattle.qo_realize.specs.Parts.{Parts}
use Rattle.qo_realize.specs.Representation.{Stands}
use Rattle.qo_realize.proofs.HoldLemmas.{acts-keep, hold-changes, hold-claims, hold-keeps}
use Rattle.qo_realize.proofs.PeriodLemmas.{acts-periods}
use Rattle.qo_realize.proofs.board.Board.hold.Goals as goal

pub invariant_of-self : goal.invariant_of-self
invariant_of-self g c =
    let inside = c.self.inside in
    let stands =
    hold-keeps inside.rings inside.anonymous inside.running inside.resets c.hold.new.resets inside.hotplug inside.heap c.hold.new.heap
    (acts-keep inside.heap c.hold.new.heap c.hold.ensures.acts) c.args.path.now c.args.kind c.hold.result
    c.self.invariant.1 c.hold.ensures.held c.hold.ensures.err in (
      stands.0,
      stands.1,
      hold-claims inside.rings inside.anonymous inside.running inside.resets c.hold.new.resets inside.hotplug inside.heap c.hold.new.heap
          (acts-keep inside.heap c.hold.new.heap c.hold.ensures.acts) c.args.path.now c.args.kind c.hold.result c.self.invariant.1 c.hold.ensures.acts
          c.hold.ensures.held
          c.hold.ensures.err c.self.invariant.2,
      c.hold.ensures.counts,
      acts-periods inside.heap c.hold.new.heap c.hold.ensures.acts c.hold.ensures.periods c.self.invariant.4,
    )

pub returns-clause-held : goal.returns-clause-held
returns-clause-held g c = λ b s.
    let inside = c.self.inside in
    let seen = subst (λ (p : Parts). Stands b p) (sym c.self.view_is) s in
    hold-changes inside.rings inside.anonymous inside.running inside.resets c.hold.new.resets inside.hotplug inside.heap c.hold.new.heap
    (acts-keep inside.heap c.hold.new.heap c.hold.ensures.acts) b c.args.path.now c.args.kind c.hold.result seen
    (c.hold.ensures.held b (seen.shows, seen.holds)) c.hold.ensures.err
