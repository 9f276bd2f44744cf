use Rattle.qo_values.proofs.NameOrder.{no_names_rise}
use Rattle.qo_values.proofs.properties.PropList.new.Goals as goal

pub invariant_of-result : goal.invariant_of-result
invariant_of-result c = rw c.new.ensures.items no_names_rise
