use Rattle.std.proofs.Common.{sym, subst}
use Rattle.qo_realize.specs.Parts.{Parts}
use Rattle.qo_realize.specs.Representation.{Stands}
use Rattle.qo_realize.proofs.GoodBoardLemmas.{good-of}
use Rattle.qo_realize.proofs.PeriodLemmas.{clocked-sound}
use Rattle.qo_realize.proofs.board.Board.qom_get.Goals as goal

pub returns : goal.returns
returns g c = λ b s.
    let seen = subst (λ (p : Parts). Stands b p) (sym c.self.view_is) s in
    c.get.ensures b seen.shows (λ derived. clocked-sound b _ (good-of _ c.self.invariant.1 b seen).run.clocks c.self.invariant.4)
