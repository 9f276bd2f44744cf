-- The slot at the place has its value, and the others stay.
use Rattle.std.proofs.Common.{ap, ◌∙◌, set}
use Rattle.qo_properties.proofs.FillingLemmas.{spent-here, spent-past, value-here, value-past}
use Rattle.qo_properties.proofs.adding.filling.take_value.Goals as goal

pub returns-then-at-plan-clause-taken : goal.returns-then-at-plan-clause-taken
returns-then-at-plan-clause-taken c = value-past c.args.at c.args.plan.now c.if-at-plan.true

pub returns-then-at-plan-clause-left : goal.returns-then-at-plan-clause-left
returns-then-at-plan-clause-left c = spent-past c.args.at c.args.plan.now c.if-at-plan.true

pub returns-clause-taken : goal.returns-clause-taken
returns-clause-taken c =
    c.take_one_value.ensures.taken ∙ value-here c.args.at c.args.plan.now c.index-plan-at.result c.if-at-plan.false

pub returns-clause-left : goal.returns-clause-left
returns-clause-left c =
    ap (set c.args.plan.now c.args.at) c.take_one_value.ensures.left
    ∙ spent-here c.args.at c.args.plan.now c.index-plan-at.result c.if-at-plan.false
