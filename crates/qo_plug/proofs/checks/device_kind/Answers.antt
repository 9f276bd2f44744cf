-- What bars a type.
use Rattle.std.proofs.Common.{sym, ◌∙◌}
use Rattle.qo_plug.proofs.BarLemmas.{allowed, barred-abstract, barred-use}
use Rattle.qo_plug.proofs.checks.device_kind.Goals as goal

pub returns-then-is_abstract-clause-refused : goal.returns-then-is_abstract-clause-refused
returns-then-is_abstract-clause-refused c =
    barred-abstract c.args.driver.now c.in-Some.kind c.in-Some.ensures (sym c.is_abstract.ensures ∙ c.if-is_abstract.true)

pub returns-then-not-derives_from-clause-refused : goal.returns-then-not-derives_from-clause-refused
returns-then-not-derives_from-clause-refused c =
    barred-use c.args.driver.now c.in-Some.kind c.in-Some.ensures (sym c.is_abstract.ensures ∙ c.if-is_abstract.false) (sym c.derives_from.ensures ∙ c.if-not-derives_from.true)

pub returns-clause-refused : goal.returns-clause-refused
returns-clause-refused c =
    allowed c.args.driver.now c.in-Some.kind c.in-Some.ensures (sym c.is_abstract.ensures ∙ c.if-is_abstract.false) (sym c.derives_from.ensures ∙ c.if-not-derives_from.false)
