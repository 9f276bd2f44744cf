-- The board whose device stays stands.
use Rattle.std.proofs.Common.{sym, subst}
use Rattle.qo_realize.specs.Parts.{Parts}
use Rattle.qo_realize.specs.Representation.{Stands}
use Rattle.qo_realize.proofs.RefusalLemmas.{refuse-invariant, refuse-returns}
use Rattle.qo_realize.proofs.ClaimsLemmas.{rows-claims}
use Rattle.qo_realize.proofs.CountedLemmas.{rows-counts}
use Rattle.qo_realize.proofs.PeriodLemmas.{rows-periods}
use Rattle.qo_realize.proofs.board.Board.refuse.Goals as goal

pub invariant_of-self : goal.invariant_of-self
invariant_of-self g c =
    let inside = c.self.inside in
    let (b, s, sound) = c.self.invariant.1 in
    let stands =
    refuse-invariant inside.rings inside.anonymous inside.running inside.resets inside.hotplug c.refuse.new.hotplug inside.heap c.refuse.new.heap
    c.args.dev.birth c.refuse.result
    (c.self.invariant.0, c.self.invariant.1) c.refuse.ensures.refused c.refuse.ensures.book c.refuse.ensures.err in (
      stands.0,
      stands.1,
      rows-claims b inside.heap c.refuse.new.heap s.shows c.refuse.ensures.rows c.self.invariant.2,
      rows-counts inside.resets.births inside.heap c.refuse.new.heap c.refuse.ensures.rows c.self.invariant.3,
      rows-periods inside.heap c.refuse.new.heap c.refuse.ensures.rows c.self.invariant.4,
    )

pub returns-clause-refused : goal.returns-clause-refused
returns-clause-refused g c = λ b s.
    let inside = c.self.inside in
    let seen = subst (λ (p : Parts). Stands b p) (sym c.self.view_is) s in
    refuse-returns b inside.rings inside.anonymous inside.running inside.resets inside.hotplug c.refuse.new.hotplug inside.heap c.refuse.new.heap
    c.args.dev.birth c.refuse.result seen
    c.refuse.ensures.refused c.refuse.ensures.book
