use Rattle.std.proofs.Common.{sym, subst}
use Rattle.qo_realize.specs.Parts.{Parts}
use Rattle.qo_realize.specs.Representation.{Stands}
use Rattle.qo_realize.proofs.board.Board.detached.Goals as goal

pub returns : goal.returns
returns g c = λ b s.
    let seen = subst (λ (p : Parts). Stands b p) (sym c.self.view_is) s in
    c.detached_list.ensures b seen.shows
