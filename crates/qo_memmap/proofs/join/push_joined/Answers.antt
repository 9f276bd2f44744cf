use Rattle.std.proofs.Common.{◌≤◌, ◌+◌, arith, sym, ◌∙◌, ◌++◌, ◌∷◌, []}
use Rattle.qo_memmap.specs.declared.region.TheConstants.{ADDRESS_LIMIT}
use Rattle.qo_memmap.specs.Windows.{AreSpans}
use Rattle.qo_memmap.proofs.JoinLemmas.{pushed-grown, pushed-behind, last-two, sizes-fit}
use Rattle.qo_memmap.proofs.join.push_joined.Goals as goal

pub goes_on-requires : goal.goes_on-requires
goes_on-requires c =
    let are : AreSpans ADDRESS_LIMIT ((c.pop.new.self.items ++ c.in-Some.last ∷ []) ++ c.args.span ∷ []) = rw (← c.in-Some.ensures.items) c.requires in
    last-two ADDRESS_LIMIT c.pop.new.self.items c.in-Some.last c.args.span are

pub overflow_add-last : goal.overflow_add-last
overflow_add-last c =
    let are : AreSpans ADDRESS_LIMIT ((c.pop.new.self.items ++ c.in-Some.last ∷ []) ++ c.args.span ∷ []) = rw (← c.in-Some.ensures.items) c.requires in
    let fits : c.in-Some.last.size + c.args.span.size ≤ ADDRESS_LIMIT =
    sizes-fit c.in-Some.last c.args.span (last-two ADDRESS_LIMIT c.pop.new.self.items c.in-Some.last c.args.span are) in
    omega arith

pub returns-then-goes_on : goal.returns-then-goes_on
returns-then-goes_on c =
    rw (c.in-Some.ensures.items, c.push_reserved.ensures.items)
    (pushed-grown c.pop.new.self.items c.in-Some.last c.args.span (sym c.goes_on.ensures ∙ c.if-goes_on.true))

pub returns : goal.returns
returns c =
    rw (c.in-Some.ensures.items, c.in_ok-push-2.ensures.items, c.push_reserved-2.ensures.items)
    (pushed-behind c.pop.new.self.items c.in-Some.last c.args.span (sym c.goes_on.ensures ∙ c.if-goes_on.false))
