-- A row more has a slot, or none.
use Rattle.std.proofs.Common.{sym, ◌∙◌}
use Rattle.qo_properties.proofs.PlanningLemmas.{blank-other, blank-own}
use Rattle.qo_properties.proofs.adding.planning.blank.Goals.{else-is_stored, then-is_stored+in_ok-push}
use Rattle.qo_properties.proofs.adding.planning.blank.Goals as goal

pub loop-row-preserved : goal.loop-row-preserved
loop-row-preserved c = elim c.if-is_stored.branch [
  | then-is_stored+in_ok-push w ↦
      rw (w.fills-is, w.in_ok-push.ensures.items)
      (blank-own c.args.kind c.props-rows.result.now c.loop-row.row-index _ c.loop-row-test.true (sym w.if-is_stored.true
      ∙ c.is_stored.ensures c.args.kind) c.loop-row.fills.items c.loop-row.invariant)
  | else-is_stored w ↦
      rw w.fills-is
      (blank-other c.args.kind c.props-rows.result.now c.loop-row.row-index _ c.loop-row-test.true (sym w.if-is_stored.false
      ∙ c.is_stored.ensures c.args.kind) c.loop-row.fills.items c.loop-row.invariant)
]
