use Rattle.std.proofs.Common.{sym, subst, ◌∙◌}
use Rattle.qo_realize.specs.Parts.{Parts}
use Rattle.qo_realize.specs.Representation.{Stands}
use Rattle.qo_realize.proofs.GoodBoardLemmas.{good-of}
use Rattle.qo_realize.proofs.RepresentationLemmas.{err-stays, write-stands, written-sound}
use Rattle.qo_unplug.proofs.MomentLemmas.{times-timely}
use Rattle.qo_realize.proofs.ClaimsLemmas.{write-claims}
use Rattle.qo_realize.proofs.CountedLemmas.{write-counts}
use Rattle.qo_realize.proofs.ClockedLemmas.{write-periods}
use Rattle.qo_realize.proofs.PeriodLemmas.{clocked-sound}
use Rattle.qo_realize.proofs.board.Board.qom_set.Goals as goal

pub set-requires : goal.set-requires
set-requires g c = let (b, s, good) = c.self.invariant.1 in record { timely = times-timely b _ s.shows good.run.times }

pub returns-clause-written : goal.returns-clause-written
returns-clause-written g c = λ b s.
    let seen = subst (λ (p : Parts). Stands b p) (sym c.self.view_is) s in
    write-stands b _ c.set.new.heap c.args.path.now c.args.name.now c.args.val.now c.set.result seen
    (c.set.ensures.written b seen.shows (λ clock. clocked-sound b _ (good-of _ c.self.invariant.1 b seen).run.clocks c.self.invariant.4)) c.set.ensures.book

pub returns-clause-err : goal.returns-clause-err
returns-clause-err g c =
    let inside = c.self.inside in
    err-stays c.set.result inside.rings inside.anonymous inside.running inside.resets inside.hotplug inside.heap c.set.new.heap _ c.self.view_is
    c.set.ensures.err

pub invariant_of-self : goal.invariant_of-self
invariant_of-self g c =
    let (b, s, sound) = c.self.invariant.1 in
    let written = c.set.ensures.written b s.shows (λ clock. clocked-sound b _ sound.run.clocks c.self.invariant.4) in (
      c.set.ensures.pins ∙ c.self.invariant.0,
      written-sound b _ c.set.new.heap c.args.path.now c.args.name.now c.args.val.now c.set.result s sound (write-stands b _ c.set.new.heap c.args.path.now
          c.args.name.now c.args.val.now c.set.result s written c.set.ensures.book) c.set.ensures.err,
      write-claims b c.args.path.now c.args.name.now c.args.val.now c.set.result c.self.inside.heap c.set.new.heap sound.run.devices s.shows
          written c.set.ensures.err c.set.ensures.claims c.self.invariant.2,
      write-counts b c.args.path.now c.args.name.now c.args.val.now c.set.result c.self.inside.resets.births c.self.inside.heap c.set.new.heap sound.run.devices
          sound.holds s.shows s.holds written c.set.ensures.err c.set.ensures.counts c.self.invariant.3,
      write-periods b c.args.path.now c.args.name.now c.args.val.now c.set.result c.self.inside.heap c.set.new.heap sound s.shows written c.set.ensures.err
          (c.set.ensures.kept b s.shows) (c.set.ensures.clocks b s.shows) c.self.invariant.4,
    )
