use Rattle.std.proofs.Common.{◌∙◌, nat_eq}
use Rattle.qo_claims.proofs.SetLemmas.{insert_key-new}
use Rattle.qo_claims.proofs.births.Births.add.Goals as goal

pub returns-clause-added : goal.returns-clause-added
returns-clause-added c =
    rw (← c.self.view_is) (c.in_ok-insert.ensures.keys ∙ insert_key-new nat_eq c.self.inside.set.keys c.args.birth (rw (← c.self.view_is) at c.requires))
