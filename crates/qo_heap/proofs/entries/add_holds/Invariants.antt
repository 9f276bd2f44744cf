use Rattle.std.proofs.Common.{◌≡◌, ◌+◌, ◌<◌, drop, length}
use Rattle.std.specs.List.{AllByRecursion}
use Rattle.qo_slots.specs.declared.keys.Key.{Key}
use Rattle.qo_heap.specs.Keeping.{all_more, holds_in, plain}
use Rattle.qo_heap.specs.Order.{IsOrdered, rows_in}
use Rattle.qo_heap.specs.declared.entries.Entry.{Entry}
use Rattle.qo_heap.proofs.entries.add_holds.Given as goal

abbrev pub invariant-loop-place : goal.invariant-loop-place
invariant-loop-place g l = record {
  ordered : IsOrdered l.table l.order.items;
  left : all_more l.owner (holds_in (drop l.place l.slots)) (rows_in l.table l.order.items)
      ≡ all_more l.owner (holds_in l.slots) (rows_in l.initial.table l.order.items);
  born : l.table.born ≡ l.initial.table.born;
  objects : plain (rows_in l.table l.order.items) ≡ plain (rows_in l.initial.table l.order.items);
  room : AllByRecursion (λ (row : Key × Entry). row.1.held + length l.slots < 9223372036854775808 + l.place) (rows_in l.table l.order.items);
}
