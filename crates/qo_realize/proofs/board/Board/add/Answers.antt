-- The device is added, or what refuses it is told.
use Rattle.std.proofs.Common.{sym, subst, Ok, Err}
use Rattle.qo_plug.specs.Admission.{as_wanted}
use Rattle.qo_realize.specs.Parts.{Parts, parts_of}
use Rattle.qo_realize.specs.Representation.{Stands}
use Rattle.qo_realize.proofs.PlugLemmas.{added-stands, barred-stands, is_shown, plugs-good, stands-pinned}
use Rattle.qo_realize.proofs.GoodBoardLemmas.{good-of}
use Rattle.qo_plug.specs.declared.adding.Added.{Added}
use Rattle.qo_realize.proofs.ClaimsLemmas.{barred-claims, plug-claims}
use Rattle.qo_realize.proofs.ClockedLemmas.{barred-periods, good-sources}
use Rattle.qo_realize.proofs.PlugClockLemmas.{plug-periods}
use Rattle.qo_realize.proofs.CountedLemmas.{barred-counts, plug-counts}
use Rattle.qo_realize.proofs.board.Board.add.Goals as goal

pub invariant_of-self : goal.invariant_of-self
invariant_of-self g c =
    let (b, s, good) = c.self.invariant.1 in
    let inside = c.self.inside in
    let a = as_wanted c.args.options.now in
    let shown = is_shown b inside.rings inside.anonymous inside.running inside.resets inside.hotplug inside.heap s good c.self.invariant.2 in
    let h = c.in-Ok.ensures.ok b shown in
    let stands = added-stands b a inside.rings inside.anonymous c.in-Some.next inside.running inside.resets inside.hotplug c.add.new.hotplug
    inside.heap c.add.new.heap c.in-Ok.added s h c.in-Some.ensures.some c.in-Ok.ensures.book in
    let held = plugs-good b a (Ok c.in-Ok.added)
    (parts_of inside.rings c.in-Some.next inside.running inside.resets c.add.new.hotplug c.add.new.heap) good stands in (
      stands-pinned _ held,
      held,
      plug-claims b a c.in-Ok.added c.add.new.hotplug inside.heap c.add.new.heap good.run.devices good.backends s.shows h c.in-Ok.ensures.claims c.self.invariant.2,
      plug-counts b a c.in-Ok.added c.add.new.hotplug inside.resets.births inside.heap c.add.new.heap good.run.devices good.holds s.shows s.holds h
          (c.in-Ok.ensures.counts b shown) c.self.invariant.3,
      plug-periods b a c.in-Ok.added c.add.new.hotplug inside.heap c.add.new.heap good s.shows h
          (c.in-Ok.ensures.fed b shown (good-sources b good)) c.self.invariant.4,
    )

pub invariant_of-self-in-Err : goal.invariant_of-self-in-Err
invariant_of-self-in-Err g c =
    let (b, s, good) = c.self.invariant.1 in
    let inside = c.self.inside in
    let a = as_wanted c.args.options.now in
    let shown = is_shown b inside.rings inside.anonymous inside.running inside.resets inside.hotplug inside.heap s good c.self.invariant.2 in
    let stands = barred-stands b a inside.rings inside.anonymous inside.running inside.resets inside.hotplug c.add.new.hotplug inside.heap
    c.add.new.heap c.in-Err.refusal s (c.in-Err.ensures.refused b shown) (c.in-Err.ensures.memory b shown) c.in-Err.ensures.asked c.in-Err.ensures.book in
    let held = plugs-good b a (Err c.in-Err.refusal)
    (parts_of inside.rings inside.anonymous inside.running inside.resets c.add.new.hotplug c.add.new.heap) good stands in (
      stands-pinned _ held,
      held,
      barred-claims Added b a c.in-Err.refusal inside.heap c.add.new.heap s.shows (c.in-Err.ensures.refused b shown)
          (λ m. c.in-Err.ensures.memory b shown (cc m)) c.in-Err.ensures.unkept c.self.invariant.2,
      barred-counts Added b a c.in-Err.refusal inside.resets.births inside.heap c.add.new.heap good.run.devices good.holds s.shows s.holds
          (c.in-Err.ensures.refused b shown) (λ m. c.in-Err.ensures.memory b shown (cc m)) c.in-Err.ensures.unkept c.self.invariant.3,
      barred-periods Added b a c.in-Err.refusal inside.heap c.add.new.heap good s.shows (c.in-Err.ensures.refused b shown)
          (λ m. c.in-Err.ensures.memory b shown (cc m)) c.in-Err.ensures.unkept c.self.invariant.4,
    )

pub returns-in-Ok : goal.returns-in-Ok
returns-in-Ok g c =
    record {
      change = λ b s.
          let inside = c.self.inside in
          let seen = subst (λ (p : Parts). Stands b p) (sym c.self.view_is) s in
          let good = good-of (parts_of inside.rings inside.anonymous inside.running inside.resets inside.hotplug inside.heap) c.self.invariant.1 b seen in
          let a = as_wanted c.args.options.now in
          let h = c.in-Ok.ensures.ok b (is_shown b inside.rings inside.anonymous inside.running inside.resets inside.hotplug inside.heap seen good c.self.invariant.2) in
          added-stands b a inside.rings inside.anonymous c.in-Some.next inside.running inside.resets inside.hotplug c.add.new.hotplug inside.heap
          c.add.new.heap c.in-Ok.added seen h c.in-Some.ensures.some c.in-Ok.ensures.book;
    }

pub returns-in-Err : goal.returns-in-Err
returns-in-Err g c =
    record {
      change = λ b s.
          let inside = c.self.inside in
          let seen = subst (λ (p : Parts). Stands b p) (sym c.self.view_is) s in
          let good = good-of (parts_of inside.rings inside.anonymous inside.running inside.resets inside.hotplug inside.heap) c.self.invariant.1 b seen in
          let a = as_wanted c.args.options.now in
          let shown = is_shown b inside.rings inside.anonymous inside.running inside.resets inside.hotplug inside.heap seen good c.self.invariant.2 in
          barred-stands b a inside.rings inside.anonymous inside.running inside.resets inside.hotplug c.add.new.hotplug inside.heap c.add.new.heap
          c.in-Err.refusal seen (c.in-Err.ensures.refused b shown) (c.in-Err.ensures.memory b shown) c.in-Err.ensures.asked c.in-Err.ensures.book;
    }
