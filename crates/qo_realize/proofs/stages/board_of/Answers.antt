-- The root alone is pinned on a board that stands.
use Rattle.qo_realize.proofs.PlugLemmas.{stands-pinned}
use Rattle.qo_realize.proofs.stages.board_of.Goals as goal

pub invariant_of-result : goal.invariant_of-result
invariant_of-result c = (stands-pinned _ c.requires.0, c.requires.0, c.requires.1, c.requires.2, c.requires.3)
