use Rattle.std.proofs.Common.{sym, subst}
use Rattle.qo_model.specs.FinalNotesRuns.{severed}
use Rattle.qo_realize.proofs.GoodBoardLemmas.{changed-good}
use Rattle.qo_realize.specs.Parts.{Parts}
use Rattle.qo_realize.specs.Representation.{Stands}
use Rattle.qo_realize.proofs.RepresentationLemmas.{answered-sound, err-stays, sever-stands}
use Rattle.qo_realize.proofs.ClaimsLemmas.{change-claims}
use Rattle.qo_realize.proofs.ClockedLemmas.{command-periods}
use Rattle.qo_realize.proofs.CountedLemmas.{changed-counts}
use Rattle.qo_realize.proofs.board.Board.sever.Goals as goal

pub returns-clause-change : goal.returns-clause-change
returns-clause-change g c = λ b s.
    let seen = subst (λ (p : Parts). Stands b p) (sym c.self.view_is) s in
    sever-stands b _ c.sever.new.heap c.args.birth c.sever.result seen (c.sever.ensures.change b seen.shows) c.sever.ensures.book

pub returns-clause-err : goal.returns-clause-err
returns-clause-err g c =
    let inside = c.self.inside in
    err-stays c.sever.result inside.rings inside.anonymous inside.running inside.resets inside.hotplug inside.heap c.sever.new.heap _ c.self.view_is
    c.sever.ensures.err

pub invariant_of-self : goal.invariant_of-self
invariant_of-self g c =
    let (b, s, sound) = c.self.invariant.1 in (
      c.sever.ensures.pinned,
      answered-sound _ c.sever.result _ (changed-good b (severed c.args.birth) sound)
          (sever-stands b _ c.sever.new.heap c.args.birth c.sever.result s (c.sever.ensures.change b s.shows) c.sever.ensures.book),
      change-claims b (severed c.args.birth) c.self.inside.heap c.sever.new.heap sound.run.devices s.shows (c.sever.ensures.change b s.shows).board
          c.sever.ensures.kept c.self.invariant.2,
      changed-counts b (severed c.args.birth) c.self.inside.resets.births c.self.inside.heap c.sever.new.heap sound.run.devices sound.holds s.shows s.holds
          (c.sever.ensures.change b s.shows).board c.sever.ensures.kept c.self.invariant.3,
      command-periods b (severed c.args.birth) c.self.inside.heap c.sever.new.heap sound s.shows (c.sever.ensures.change b s.shows).board
          c.sever.ensures.kept c.self.invariant.4,
    )
