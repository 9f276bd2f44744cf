-- An id is a name.
use Rattle.std.proofs.Common.{sym, subst, ℕ, List, ◌∙◌}
use Rattle.qo_values.specs.Names.{IsName}
use Rattle.qo_values.proofs.IdLemmas.{id-named}
use Rattle.qo_values.proofs.ids.Id.to_name.Goals as goal

pub from_string-requires : goal.from_string-requires
from_string-requires c =
    subst (λ (t : List ℕ). IsName t) (sym (c.in_ok-text.ensures.ok ∙ c.as_str.ensures.value)) (id-named c.args.self.now c.as_str.ensures.id)
