use Rattle.std.proofs.Common.{sym, subst}
use Rattle.qo_realize.specs.Parts.{Parts}
use Rattle.qo_realize.specs.Representation.{Stands}
use Rattle.qo_realize.proofs.board.Board.running.Goals as goal

pub returns : goal.returns
returns c = λ b s.
    let seen = subst (λ (p : Parts). Stands b p) (sym c.self.view_is) s in
    sym seen.running
