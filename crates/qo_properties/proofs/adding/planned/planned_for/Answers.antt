-- The plan has it at the place of its slot, where it has one.
use Rattle.std.proofs.Common.{sym, ◌∙◌, option_map}
use Rattle.qo_properties.proofs.PlannedLemmas.{absent-told, got, place-told}
use Rattle.qo_properties.proofs.adding.planned.planned_for.Goals as goal

pub returns-then-not-is_stored-clause-given : goal.returns-then-not-is_stored-clause-given
returns-then-not-is_stored-clause-given c = λ b props has.
    absent-told b props c.args.kind c.args.name.now c.args.plan.now has c.in_ok-placed.placed (sym c.in_ok-placed.ensures.row)
    (sym (c.is_stored.ensures c.args.kind) ∙ c.if-not-is_stored.true)

pub returns-clause-given : goal.returns-clause-given
returns-clause-given c = λ b props has.
    place-told b props c.args.kind c.args.name.now c.args.plan.now has c.in_ok-placed.placed (sym c.in_ok-placed.ensures.row) c.in_ok-placed.ensures.place
    (sym (c.is_stored.ensures c.args.kind) ∙ c.if-not-is_stored.false) (option_map (λ f. f.now) c.get.result)
    (got c.args.plan.now c.in_ok-placed.placed.place c.get.result c.get.ensures.lookup)
