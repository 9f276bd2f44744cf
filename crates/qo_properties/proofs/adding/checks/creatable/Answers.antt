-- The row of the type tells.
use Rattle.std.proofs.Common.{sym, ◌∙◌}
use Rattle.qo_properties.proofs.BarLemmas.{allowed, refused-abstract, refused-use}
use Rattle.qo_properties.proofs.adding.checks.creatable.Goals as goal

pub returns-then-is_abstract-clause-refused : goal.returns-then-is_abstract-clause-refused
returns-then-is_abstract-clause-refused c =
    refused-abstract c.args.driver.now c.in-Some.kind c.in-Some.ensures (sym c.is_abstract.ensures ∙ c.if-is_abstract.true)

pub returns-then-not-is_a-clause-refused : goal.returns-then-not-is_a-clause-refused
returns-then-not-is_a-clause-refused c =
    refused-use c.args.driver.now c.in-Some.kind c.in-Some.ensures (sym c.is_abstract.ensures ∙ c.if-is_abstract.false)
    (sym c.is_a.ensures ∙ c.if-not-is_a.true)

pub returns-clause-refused : goal.returns-clause-refused
returns-clause-refused c =
    allowed c.args.driver.now c.in-Some.kind c.in-Some.ensures (sym c.is_abstract.ensures ∙ c.if-is_abstract.false) (sym c.is_a.ensures ∙ c.if-not-is_a.false)
