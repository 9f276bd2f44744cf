use Rattle.std.proofs.Common.{sym, ap, ◌∙◌}
use Rattle.qo_heap.specs.Log.{Log}
use Rattle.qo_heap.proofs.EndLemmas.{noted-one, noted-none}
use Rattle.qo_heap.proofs.heap.Heap.note_final.Goals as goal

pub returns-then-has_finalizer : goal.returns-then-has_finalizer
returns-then-has_finalizer c =
    rw (sym c.has_finalizer.ensures ∙ c.if-has_finalizer.true)
    (c.note.ensures ∙ ap (λ (log : Log). record c.args.self.now { log = log }) (sym (noted-one _ c.args.self.now.log)))

pub returns-else-has_finalizer : goal.returns-else-has_finalizer
returns-else-has_finalizer c =
    rw (sym c.has_finalizer.ensures ∙ c.if-has_finalizer.false)
    (ap (λ (log : Log). record c.args.self.now { log = log }) (sym (noted-none c.args.self.now.log)))
