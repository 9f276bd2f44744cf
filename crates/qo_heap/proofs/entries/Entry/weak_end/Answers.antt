use Rattle.std.proofs.Common.{sym, ◌∙◌}
use Rattle.qo_heap.specs.WeakEnds.{IsLinked, IsWeakEnd, naming, own}
use Rattle.qo_heap.proofs.HoldLemmas.{some-imply}
use Rattle.qo_heap.proofs.WeakEnds.{if-none}
use Rattle.qo_heap.proofs.entries.Entry.weak_end.Goals as goal

pub returns-in-Some-clause-some : goal.returns-in-Some-clause-some
returns-in-Some-clause-some c = naming (sym c.first.ensures ∙ c.in-Some.is)

pub returns-in-None-clause-some : goal.returns-in-None-clause-some
returns-in-None-clause-some c =
    some-imply (IsLinked c.args.key c.args.self.now) (IsWeakEnd c.args.key c.args.self.now) (λ l is. own is) c.own_link.result c.own_link.ensures.some

pub returns-in-None-clause-first : goal.returns-in-None-clause-first
returns-in-None-clause-first c = if-none c.own_link.result (sym c.first.ensures ∙ c.in-None.is)
