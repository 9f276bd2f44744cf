-- The first type of a name is that of the first row of the name.
use Rattle.std.proofs.Common.{ap, ◌∙◌, List, find}
use Rattle.std.specs.Str.{bytes_eq}
use Rattle.qo_values.specs.Kinds.{type_name}
use Rattle.qo_values.specs.declared.kinds.TypeId.{TypeId}
use Rattle.qo_types.proofs.TableLemmas.{named_in}
use Rattle.qo_types.proofs.table.TypeTable.find.Goals as goal

pub returns : goal.returns
returns c =
    c.first_named.ensures ∙ ap (λ (ts : List TypeId). find (λ (t : TypeId). bytes_eq (type_name t) c.args.name.now) ts) c.all_types.ensures
    ∙ named_in c.args.name.now
