use Rattle.std.proofs.Common.{◌∙◌}
use Rattle.qo_claims.specs.Lists.{slot_eq}
use Rattle.qo_claims.proofs.SetLemmas.{insert_key-new}
use Rattle.qo_claims.proofs.slots.Slots.add.Goals as goal

pub returns-clause-added : goal.returns-clause-added
returns-clause-added c =
    rw (← c.self.view_is) (c.in_ok-insert.ensures.keys ∙ insert_key-new slot_eq c.self.inside.set.keys c.args.slot (rw (← c.self.view_is) at c.requires))
