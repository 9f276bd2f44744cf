-- The rows are looked at in order.
use Rattle.std.proofs.Common.{◌+◌, ◌++◌, ap, append-nil, drop, filter_map, sym, ◌∙◌, List}
use Rattle.std.specs.Vec.Iter.{into_iter_items}
use Rattle.qo_object.specs.Slots.{Named}
use Rattle.qo_properties.specs.Filling.{filled}
use Rattle.qo_properties.specs.NewSlots.{slot_begun}
use Rattle.qo_properties.proofs.SlotsLemmas.{filled-end, rows-next}
use Rattle.qo_paths.proofs.EndLemmas.{given-past}
use Rattle.qo_properties.proofs.adding.fresh.planned_slots.Goals as goal

pub loop-row-preserved : goal.loop-row-preserved
loop-row-preserved c =
    c.in_ok-put_row.ensures (filter_map (slot_begun c.args.kind) (drop (c.loop-row.row-index + 1) c.props-rows.result.now))
    ∙ ap (λ (l : List Named). c.loop-row.slots ++ filled (into_iter_items c.loop-row.fills) l)
    (sym (rows-next (slot_begun c.args.kind) c.props-rows.result.now c.loop-row.row-index _ c.loop-row-test.true))
    ∙ c.loop-row.invariant

pub returns : goal.returns
returns c =
    sym (
    ap (λ (l : List Named). c.loop-row.slots ++ filled (into_iter_items c.loop-row.fills) l)
    (given-past (slot_begun c.args.kind) c.props-rows.result.now c.loop-row.row-index c.loop-row-test.false)
    ∙ ap (λ (l : List Named). c.loop-row.slots ++ l) (filled-end (into_iter_items c.loop-row.fills))
    ∙ append-nil c.loop-row.slots
    )
    ∙ c.loop-row.invariant
