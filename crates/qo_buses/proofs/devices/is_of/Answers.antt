-- An object is of a type by its own.
use Rattle.std.proofs.Common.{sym, ◌∙◌}
use Rattle.qo_values.specs.Kinds.{type_name}
use Rattle.qo_buses.proofs.WayLemmas.{of-is}
use Rattle.qo_buses.proofs.devices.is_of.Goals as goal

pub returns-clause-kind : goal.returns-clause-kind
returns-clause-kind g c = λ b s.
    c.derives_from.ensures ∙ sym (of-is b c.args.heap.now s c.args.o.birth c.kind.result (type_name c.args.wanted) c.kind.ensures.kind)
