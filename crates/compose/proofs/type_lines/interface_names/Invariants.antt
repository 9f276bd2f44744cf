-- The names of the interfaces passed over.
use Rattle.std.proofs.Common.{◌≡◌, map, take}
use Rattle.qo_model.specs.RowNames.{interface_name}
use Rattle.compose.proofs.type_lines.interface_names.Given as goal

abbrev pub invariant-loop-interface : goal.invariant-loop-interface
invariant-loop-interface l = map (λ name. name.now) l.names.items ≡ map interface_name (take l.interface-index l.interfaces)
