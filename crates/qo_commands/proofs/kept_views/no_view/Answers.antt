-- Nothing is right beside any board.
use Rattle.qo_commands.proofs.KeptViewLemmas.{view_none}
use Rattle.qo_commands.proofs.kept_views.no_view.Goals as goal

pub returns : goal.returns
returns c = λ p. view_none p c.none.result c.none.ensures
