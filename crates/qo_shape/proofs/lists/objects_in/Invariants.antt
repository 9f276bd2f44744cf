-- All items are those read, and after them those left.
use Rattle.std.proofs.Common.{drop}
use Rattle.qo_json.specs.View.{items_view}
use Rattle.qo_save.specs.Shape.{object_in}
use Rattle.qo_shape.specs.Said.{object_said}
use Rattle.qo_shape.proofs.ReadLemmas.{Left}
use Rattle.qo_shape.proofs.lists.objects_in.Given as goal

abbrev pub invariant-loop-item : goal.invariant-loop-item
invariant-loop-item l = Left object_said object_in (items_view l.items) l.found.items (drop l.item-index l.items)
