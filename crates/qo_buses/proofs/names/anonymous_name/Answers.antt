-- The text is a name.
use Rattle.std.proofs.Common.{arith, rules}
use Rattle.qo_buses.proofs.NameLemmas.{anonymous-named}
use Rattle.qo_buses.proofs.names.anonymous_name.Goals as goal

pub from_string-requires : goal.from_string-requires
from_string-requires c = anonymous-named c.args.n _ (omega arith) (search rules)
