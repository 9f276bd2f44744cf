-- All items are those read, and after them those left.
use Rattle.std.proofs.Common.{drop}
use Rattle.qo_json.specs.View.{items_view}
use Rattle.qo_save.specs.Shape.{ring_in}
use Rattle.qo_shape.specs.Said.{ring_said}
use Rattle.qo_shape.proofs.ReadLemmas.{Left}
use Rattle.qo_shape.proofs.lists.rings_in.Given as goal

abbrev pub invariant-loop-item : goal.invariant-loop-item
invariant-loop-item l = Left ring_said ring_in (items_view l.items) l.found.items (drop l.item-index l.items)
