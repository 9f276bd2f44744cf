-- The first row of the name, among the rows of the type.
use Rattle.std.proofs.Common.{ap, ◌∙◌, List, find}
use Rattle.std.specs.Str.{bytes_eq}
use Rattle.qo_model.specs.RowNames.{property_name}
use Rattle.qo_model.specs.declared.properties.Property.{Property}
use Rattle.qo_types.proofs.table.TypeTable.property.Goals as goal

pub returns : goal.returns
returns c = c.first_named.ensures ∙ ap (λ (rows : List Property). find (λ (p : Property). bytes_eq (property_name p.name) c.args.name.now) rows) c.props.ensures
