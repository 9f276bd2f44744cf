-- An id is a name.
use Rattle.std.specs.Prelude.{string_bytes}
use Rattle.qo_values.proofs.IdLemmas.{id-named}
use Rattle.qo_values.proofs.ids.Id.into_name.Goals as goal

pub from_string-requires : goal.from_string-requires
from_string-requires c = id-named (string_bytes c.self.inside.text) c.self.invariant
