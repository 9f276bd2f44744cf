-- Births and notes are left.
use Rattle.std.proofs.Common.{sym, subst}
use Rattle.qo_realize.specs.Stages.{DraftParts, IsDrafted}
use Rattle.qo_realize.proofs.StageLemmas.{given_up-stands, since-given_up}
use Rattle.qo_plug.proofs.KeptLemmas.{new-then}
use Rattle.qo_realize.proofs.ClaimsLemmas.{given_up-claims}
use Rattle.qo_realize.proofs.ClockedLemmas.{given_up-periods}
use Rattle.qo_realize.proofs.CountedLemmas.{given_up-counts}
use Rattle.qo_realize.proofs.stages.Draft.abandon.Goals as goal

pub board_of-requires : goal.board_of-requires
board_of-requires g c =
    let (b, a, is) = c.self.invariant.1 in
    let i = c.self.inside in
    let x = i.beside in (
      given_up-stands b a x.rings x.anonymous i.next x.running x.resets x.hotplug i.heap is.since
          c.abandon.new.heap c.abandon.ensures.book i.begun.target.kind i.begun.target.bus.birth
          (c.abandon.ensures.given_up b a is.begun),
      given_up-claims b i.begun.target.kind i.begun.target.bus.birth is.since.before c.abandon.new.heap is.since.stood.shows
          (c.abandon.ensures.given_up b a is.begun)
          (new-then is.since.before i.heap c.abandon.new.heap is.kept c.abandon.ensures.kept) is.since.claims,
      given_up-counts b i.begun.target.kind i.begun.target.bus.birth x.resets.births is.since.before c.abandon.new.heap is.since.good.run.devices
          is.since.good.holds is.since.stood.shows is.since.stood.holds (c.abandon.ensures.given_up b a is.begun)
          (new-then is.since.before i.heap c.abandon.new.heap is.kept c.abandon.ensures.kept) is.since.counts_kept,
      given_up-periods b i.begun.target.kind i.begun.target.bus.birth is.since.before c.abandon.new.heap is.since.good is.since.stood.shows
          (c.abandon.ensures.given_up b a is.begun)
          (new-then is.since.before i.heap c.abandon.new.heap is.kept c.abandon.ensures.kept) is.since.periods_kept,
    )

pub returns : goal.returns
returns g c = λ b a given.
    let is = subst (λ (d : DraftParts). IsDrafted b a d) (sym c.self.view_is) given in
    let i = c.self.inside in
    let x = i.beside in
    rw (c.board_of.ensures, sym c.self.view_is)
    (since-given_up b a x.rings x.anonymous i.next x.running x.resets x.hotplug i.heap is.since
    c.abandon.new.heap c.abandon.ensures.book i.begun.target.kind i.begun.target.bus.birth
    (c.abandon.ensures.given_up b a is.begun))
