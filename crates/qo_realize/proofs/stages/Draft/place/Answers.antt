-- What was begun is placed, or what refuses it is told.
use Rattle.std.proofs.Common.{ℕ, sym, subst, Err}
use Rattle.qo_realize.specs.Stages.{DraftParts, IsDrafted}
use Rattle.qo_realize.proofs.PlugLemmas.{plugs-good}
use Rattle.qo_realize.proofs.StageLemmas.{place-barred, plugged-is}
use Rattle.qo_plug.proofs.KeptLemmas.{new-then}
use Rattle.qo_plug.proofs.AddLemmas.{refused-within}
use Rattle.qo_realize.proofs.ClaimsLemmas.{barred-claims}
use Rattle.qo_realize.proofs.ClockedLemmas.{barred-periods, good-sources}
use Rattle.qo_realize.proofs.CountedLemmas.{barred-counts}
use Rattle.qo_realize.proofs.stages.Draft.place.Goals as goal

pub invariant_of-result : goal.invariant_of-result
invariant_of-result g c =
    let (b, a, is) = c.self.invariant.1 in
    let i = c.self.inside in
    let x = i.beside in
    let settled = c.in-Ok.ensures.settled b a is.begun is.since.stood.notices in
    let placed =
    plugged-is b a x.rings x.anonymous i.next x.running x.resets x.hotplug i.heap c.place.new.heap c.in-Ok.placed is.since is.kept c.in-Ok.ensures.book
    c.in-Ok.ensures.kept (c.in-Ok.ensures.fed b a is.begun (good-sources b is.since.good)) settled in
    (c.in-Ok.ensures.ready, (b, a, placed))

pub board_of-requires : goal.board_of-requires
board_of-requires g c =
    let (b, a, is) = c.self.invariant.1 in
    let i = c.self.inside in
    let x = i.beside in
    let barred =
    place-barred b a x.rings x.anonymous i.next x.running x.resets x.hotplug i.heap is.since
    c.place.new.heap c.in-Err.ensures.book c.in-Err.refusal
    (c.in-Err.ensures.refused b a is.begun) (λ m. c.in-Err.ensures.memory b a is.begun (cc m)) in (
      plugs-good b a (Err c.in-Err.refusal) _ is.since.good barred.1,
      barred-claims ℕ b a c.in-Err.refusal is.since.before c.place.new.heap is.since.stood.shows
          (refused-within b a 5 6 ℕ ℕ c.in-Err.refusal c.place.new.heap (c.in-Err.ensures.refused b a is.begun))
          (λ m. c.in-Err.ensures.memory b a is.begun (cc m)) (new-then is.since.before i.heap c.place.new.heap is.kept c.in-Err.ensures.unkept) is.since.claims,
      barred-counts ℕ b a c.in-Err.refusal x.resets.births is.since.before c.place.new.heap is.since.good.run.devices is.since.good.holds is.since.stood.shows
          is.since.stood.holds (refused-within b a 5 6 ℕ ℕ c.in-Err.refusal c.place.new.heap (c.in-Err.ensures.refused b a is.begun))
          (λ m. c.in-Err.ensures.memory b a is.begun (cc m)) (new-then is.since.before i.heap c.place.new.heap is.kept c.in-Err.ensures.unkept)
          is.since.counts_kept,
      barred-periods ℕ b a c.in-Err.refusal is.since.before c.place.new.heap is.since.good is.since.stood.shows
          (refused-within b a 5 6 ℕ ℕ c.in-Err.refusal c.place.new.heap (c.in-Err.ensures.refused b a is.begun))
          (λ m. c.in-Err.ensures.memory b a is.begun (cc m)) (new-then is.since.before i.heap c.place.new.heap is.kept c.in-Err.ensures.unkept)
          is.since.periods_kept,
    )

pub returns-in-Ok : goal.returns-in-Ok
returns-in-Ok g c = λ b a given.
    let is = subst (λ (d : DraftParts). IsDrafted b a d) (sym c.self.view_is) given in
    let i = c.self.inside in
    let x = i.beside in
    plugged-is b a x.rings x.anonymous i.next x.running x.resets x.hotplug i.heap c.place.new.heap c.in-Ok.placed is.since is.kept c.in-Ok.ensures.book
    c.in-Ok.ensures.kept (c.in-Ok.ensures.fed b a is.begun (good-sources b is.since.good)) (c.in-Ok.ensures.settled b a is.begun is.since.stood.notices)

pub returns-in-Err : goal.returns-in-Err
returns-in-Err g c = λ b a given.
    let is = subst (λ (d : DraftParts). IsDrafted b a d) (sym c.self.view_is) given in
    let i = c.self.inside in
    let x = i.beside in
    rw c.board_of.ensures
    (place-barred b a x.rings x.anonymous i.next x.running x.resets x.hotplug i.heap is.since
    c.place.new.heap c.in-Err.ensures.book c.in-Err.refusal
    (c.in-Err.ensures.refused b a is.begun) (λ m. c.in-Err.ensures.memory b a is.begun (cc m)))
