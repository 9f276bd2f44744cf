use Rattle.std.proofs.Common.{◌∙◌, ap}
use Rattle.qo_heap.specs.Keeping.{plain, unheld}
use Rattle.qo_heap.specs.Order.{rows_in}
use Rattle.qo_heap.specs.declared.entries.Entry.{Entry}
use Rattle.qo_heap.proofs.KeepingLemmas.{plain-added}
use Rattle.qo_heap.proofs.entries.add_object.Goals as goal

pub returns-in-Ok-clause-added : goal.returns-in-Ok-clause-added
returns-in-Ok-clause-added g c =
    let done = rw c.new.ensures at c.in-Ok.ensures.added in (
      done.0,
      (
        ap plain done.1.0 ∙ plain-added (rows_in c.args.table.now c.args.order.now.items) (c.in-Ok.key, unheld c.args.object),
        done.1.1,
      ),
    )

pub returns-in-Ok-clause-kept : goal.returns-in-Ok-clause-kept
returns-in-Ok-clause-kept g c = (rw c.new.ensures at c.in-Ok.ensures.added).1.0

pub returns-in-Err-clause-refused : goal.returns-in-Err-clause-refused
returns-in-Err-clause-refused g c =
    (c.into_object.ensures ∙ ap (λ (e : Entry). e.object) (c.in-Err.ensures.refused.0 ∙ c.new.ensures), c.in-Err.ensures.refused.1)
