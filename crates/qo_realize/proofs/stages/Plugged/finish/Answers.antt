-- The device is added, or refused by the notices.
use Rattle.std.proofs.Common.{ℕ, sym, subst, Ok, Err}
use Rattle.qo_model.specs.Plug.{plug}
use Rattle.qo_plug.specs.declared.refusals.AddRefusal.TheVariants.{Refused}
use Rattle.qo_realize.specs.Stages.{IsPlugged, PluggedParts}
use Rattle.qo_realize.proofs.PlugLemmas.{plugs-good}
use Rattle.qo_realize.proofs.StageLemmas.{finish-barred, since-added, since-beside}
use Rattle.qo_values.specs.declared.codes.Code.TheVariants.{E44}
use Rattle.qo_plug.specs.KeptClaims.{ClaimsOrNewBut, KeptSoFar}
use Rattle.qo_plug.proofs.KeptLemmas.{far-but, far-new, far-others}
use Rattle.qo_realize.proofs.ClaimsLemmas.{late-claims, plug-claims}
use Rattle.qo_realize.proofs.ClockedLemmas.{late-periods}
use Rattle.qo_realize.proofs.PlugClockLemmas.{far-fed, plug-periods}
use Rattle.qo_realize.proofs.CountedLemmas.{late-counts, plug-counts}
use Rattle.qo_realize.proofs.stages.Plugged.finish.Goals as goal

pub board_of-requires : goal.board_of-requires
board_of-requires g c =
    let (b, a, is) = c.self.invariant.1 in
    let i = c.self.inside in
    let x = i.beside in
    let beside = since-beside b a x.rings x.anonymous i.next x.running x.resets x.hotplug i.heap is.since in
    let added = c.in-Ok.ensures.ok b a is.settled beside in
    let counts = c.in-Ok.ensures.counts b a is.settled beside in (
      plugs-good b a (Ok c.in-Ok.added) _ is.since.good
          (since-added b a x.rings x.anonymous i.next x.running x.resets x.hotplug i.heap is.since
          c.finish.new.heap c.in-Ok.ensures.book c.finish.new.hotplug c.in-Ok.added added),
      plug-claims b a c.in-Ok.added c.finish.new.hotplug is.since.before c.finish.new.heap is.since.good.run.devices is.since.good.backends is.since.stood.shows added
          (subst (λ (n : ℕ). ClaimsOrNewBut n is.since.before c.finish.new.heap) (sym c.in-Ok.ensures.device)
          (far-but is.since.before i.heap c.finish.new.heap i.placed.device.birth i.placed.plugging is.kept c.in-Ok.ensures.claims)) is.since.claims,
      plug-counts b a c.in-Ok.added c.finish.new.hotplug x.resets.births is.since.before c.finish.new.heap is.since.good.run.devices is.since.good.holds
          is.since.stood.shows is.since.stood.holds added (
            counts.0,
            far-others (plug b a).board is.since.before i.heap c.finish.new.heap c.in-Ok.added.birth i.placed.plugging
                (subst (λ (n : ℕ). KeptSoFar n i.placed.plugging is.since.before i.heap) (sym c.in-Ok.ensures.device) is.kept) counts.1,
          ) is.since.counts_kept,
      plug-periods b a c.in-Ok.added c.finish.new.hotplug is.since.before c.finish.new.heap is.since.good is.since.stood.shows added
          (far-fed b a i.placed (plug b a).board is.since.before i.heap c.finish.new.heap c.in-Ok.added.birth is.settled is.fed c.in-Ok.ensures.stood
          c.in-Ok.ensures.device c.in-Ok.ensures.periods (c.in-Ok.ensures.fed b a is.settled beside)) is.since.periods_kept,
    )

pub board_of-requires-in-Err : goal.board_of-requires-in-Err
board_of-requires-in-Err g c =
    let (b, a, is) = c.self.invariant.1 in
    let i = c.self.inside in
    let x = i.beside in
    let bar = c.in-Err.field-0 in
    let barred =
    finish-barred b a x.rings x.anonymous i.next x.running x.resets x.hotplug i.heap is.since
    c.finish.new.heap c.in-Err.ensures.book c.finish.new.hotplug c.in-Err.ensures.asked
    bar.stage bar.code c.in-Err.ensures.code (c.in-Err.ensures.refused b a is.settled) in (
      plugs-good b a (Err (Refused bar.stage bar.code)) _ is.since.good barred.1,
      late-claims b a 8 E44 is.since.before c.finish.new.heap is.since.stood.shows (c.in-Err.ensures.refused b a is.settled)
          (far-new is.since.before i.heap c.finish.new.heap i.placed.device.birth i.placed.plugging is.kept c.in-Err.ensures.full c.in-Err.ensures.unkept)
          is.since.claims,
      late-counts b a 8 E44 x.resets.births is.since.before c.finish.new.heap is.since.good.run.devices is.since.good.holds is.since.stood.shows
          is.since.stood.holds (c.in-Err.ensures.refused b a is.settled)
          (far-new is.since.before i.heap c.finish.new.heap i.placed.device.birth i.placed.plugging is.kept c.in-Err.ensures.full c.in-Err.ensures.unkept)
          is.since.counts_kept,
      late-periods b a 8 E44 is.since.before c.finish.new.heap is.since.good is.since.stood.shows (c.in-Err.ensures.refused b a is.settled)
          (far-new is.since.before i.heap c.finish.new.heap i.placed.device.birth i.placed.plugging is.kept c.in-Err.ensures.full c.in-Err.ensures.unkept)
          is.since.periods_kept,
    )

pub returns-in-Ok : goal.returns-in-Ok
returns-in-Ok g c = λ b a given.
    let is = subst (λ (p : PluggedParts). IsPlugged b a p) (sym c.self.view_is) given in
    let i = c.self.inside in
    let x = i.beside in
    let beside = since-beside b a x.rings x.anonymous i.next x.running x.resets x.hotplug i.heap is.since in
    let added = c.in-Ok.ensures.ok b a is.settled beside in
    rw c.board_of.ensures
    (since-added b a x.rings x.anonymous i.next x.running x.resets x.hotplug i.heap is.since
    c.finish.new.heap c.in-Ok.ensures.book c.finish.new.hotplug c.in-Ok.added added)

pub returns-in-Err : goal.returns-in-Err
returns-in-Err g c = λ b a given.
    let is = subst (λ (p : PluggedParts). IsPlugged b a p) (sym c.self.view_is) given in
    let i = c.self.inside in
    let x = i.beside in
    let bar = c.in-Err.field-0 in
    rw c.board_of-in-Err.ensures
    (finish-barred b a x.rings x.anonymous i.next x.running x.resets x.hotplug i.heap is.since
    c.finish.new.heap c.in-Err.ensures.book c.finish.new.hotplug c.in-Err.ensures.asked
    bar.stage bar.code c.in-Err.ensures.code (c.in-Err.ensures.refused b a is.settled))
