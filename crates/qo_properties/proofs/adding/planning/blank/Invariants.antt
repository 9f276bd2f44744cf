-- There is an empty fill for each slot of the rows before the place.
use Rattle.std.proofs.Common.{◌≡◌, take, map, filter_map}
use Rattle.qo_properties.specs.declared.adding.filling.InitialValue.TheVariants.{Default}
use Rattle.qo_properties.specs.NewSlots.{slot_begun}
use Rattle.qo_properties.proofs.adding.planning.blank.Given as goal

abbrev pub invariant-loop-row : goal.invariant-loop-row
invariant-loop-row l = l.fills.items ≡ map (λ _. Default) (filter_map (slot_begun l.fn.kind) (take l.row-index l.rows))
