-- An object that is not there lists nothing.
use Rattle.std.proofs.Common.{sym, subst}
use Rattle.qo_realize.specs.Parts.{Parts}
use Rattle.qo_realize.specs.Representation.{Stands}
use Rattle.qo_realize.proofs.RepresentationLemmas.{none-listed}
use Rattle.qo_realize.proofs.board.Board.object.Goals as goal

pub returns-clause-none : goal.returns-clause-none
returns-clause-none c = λ b s.
    let seen = subst (λ (p : Parts). Stands b p) (sym c.self.view_is) s in
    none-listed c.object_of.result b c.self.inside.heap seen.shows c.args.birth c.object_of.ensures.none
