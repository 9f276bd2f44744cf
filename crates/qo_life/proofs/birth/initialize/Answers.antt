use Rattle.std.proofs.Common.{sym, ◌∙◌}
use Rattle.qo_life.proofs.BirthLemmas.{init-had, init-none}
use Rattle.qo_life.proofs.birth.initialize.Goals as goal

pub returns-then-has_finalizer : goal.returns-then-has_finalizer
returns-then-has_finalizer g c =
    init-had c.args.o.birth c.args.of c.args.heap.now.time 0 c.args.heap.now c.act.new.self (sym c.has_finalizer.ensures ∙ c.if-has_finalizer.true)
    c.act.ensures.now

pub returns-else-has_finalizer : goal.returns-else-has_finalizer
returns-else-has_finalizer g c =
    init-none c.args.o.birth c.args.of c.args.heap.now (sym c.has_finalizer.ensures ∙ c.if-has_finalizer.false)
