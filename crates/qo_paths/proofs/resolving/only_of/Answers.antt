-- The object is given where it is of the wanted type.
use Rattle.std.proofs.Common.{true, false, sym, ◌∙◌}
use Rattle.qo_paths.proofs.EndLemmas.{only-is}
use Rattle.qo_paths.proofs.resolving.only_of.Goals as goal

pub returns-then-is_a-clause-only : goal.returns-then-is_a-clause-only
returns-then-is_a-clause-only g c = λ b s.
    sym (only-is b c.args.heap.now s c.args.o.birth c.kind.result c.args.wanted.now true c.kind.ensures.kind (sym c.is_a.ensures ∙ c.if-is_a.true))

pub returns-clause-only : goal.returns-clause-only
returns-clause-only g c = λ b s.
    sym (only-is b c.args.heap.now s c.args.o.birth c.kind.result c.args.wanted.now false c.kind.ensures.kind (sym c.is_a.ensures ∙ c.if-is_a.false))
