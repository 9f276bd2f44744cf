use Rattle.std.proofs.Common.{sym, subst, List, rules}
use Rattle.qo_slots.specs.declared.keys.Key.{Key}
use Rattle.qo_heap.specs.Order.{rows_in}
use Rattle.qo_heap.specs.WeakLists.{HasWeakLists}
use Rattle.qo_heap.proofs.WeakCalls.{no-lists}
use Rattle.qo_heap.proofs.heap.Heap.new.Goals as goal

pub invariant_of-result : goal.invariant_of-result
invariant_of-result c =
    let lists : HasWeakLists (rows_in c.new.result c.new-2.result.items) =
    subst (λ (order : List Key). HasWeakLists (rows_in c.new.result order)) (sym c.new-2.ensures.items) no-lists in
    ((search rules, search rules), (search rules, (search rules, (lists, (search rules, search rules)))))
