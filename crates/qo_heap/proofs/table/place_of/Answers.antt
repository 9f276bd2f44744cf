use Rattle.std.proofs.Common.{rules, of_calls, arith, ltb}
use Rattle.std.proofs.lemmas.List.Sorted.{IsPartitionPoint-from_clause, IsPartitionedBy-ltb}
use Rattle.qo_slots.specs.declared.keys.Key.{Key}
use Rattle.qo_heap.proofs.RowsLemmas.{point, rises-in_order}
use Rattle.qo_heap.proofs.table.place_of.Goals as goal

pub returns : goal.returns
returns c =
    let parted =
    IsPartitionPoint-from_clause (λ (k : Key). ltb k.birth c.args.birth) c.args.order.now c.partition_point.result c.partition_point.ensures.partitioned
    (IsPartitionedBy-ltb (λ (k : Key). k.birth) c.args.order.now c.args.birth (rises-in_order c.args.order.now 0 c.requires.0 c.requires.1))
    (λ a r f k. search (rules, of_calls)) in
    point (λ (k : Key). ltb k.birth c.args.birth) c.args.order.now c.partition_point.result c.partition_point.ensures.bound
    (λ k d l. parted.0 k d (omega arith) l) (λ k d l m. parted.1 k d l m)
