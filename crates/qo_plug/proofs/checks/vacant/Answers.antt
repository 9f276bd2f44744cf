-- What bars a place in a container.
use Rattle.std.proofs.Common.{sym, ◌∙◌, codes}
use Rattle.qo_plug.proofs.BarLemmas.{at-container-free, at-container-none, at-container-taken, container-none, of-gone}
use Rattle.qo_plug.proofs.checks.vacant.Goals as goal
use Rattle.qo_properties.proofs.BarLemmas.{taken-is}

pub returns-in_default-clause-refused : goal.returns-in_default-clause-refused
returns-in_default-clause-refused g c =
    λ b s. container-none b c.args.birth c.args.name.now (of-gone b c.args.heap.now s c.args.birth (codes "container") c.in_default.ensures.none)

pub returns-then-not-is_of-clause-refused : goal.returns-then-not-is_of-clause-refused
returns-then-not-is_of-clause-refused g c = λ b s.
    at-container-none b c.args.birth c.in-Some.container.birth c.args.name.now c.in-Some.ensures.born (sym (c.is_of.ensures.kind b s) ∙ c.if-not-is_of.true)

pub returns-then-is_some-clause-refused : goal.returns-then-is_some-clause-refused
returns-then-is_some-clause-refused g c = λ b s.
    at-container-taken b c.args.birth c.in-Some.container.birth c.args.name.now c.in-Some.ensures.born (sym (c.is_of.ensures.kind b s) ∙ c.if-not-is_of.false)
    (taken-is _ c.slot.result b c.args.heap.now s c.in-Some.container.birth c.args.name.now _ c.slot.ensures.slot (sym c.is_some.ensures ∙ c.if-is_some.true))

pub returns-clause-refused : goal.returns-clause-refused
returns-clause-refused g c = λ b s.
    at-container-free b c.args.birth c.in-Some.container.birth c.args.name.now c.in-Some.ensures.born (sym (c.is_of.ensures.kind b s) ∙ c.if-not-is_of.false)
    (taken-is _ c.slot.result b c.args.heap.now s c.in-Some.container.birth c.args.name.now _ c.slot.ensures.slot (sym c.is_some.ensures ∙ c.if-is_some.false))
