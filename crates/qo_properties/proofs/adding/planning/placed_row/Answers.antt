-- The rows are looked at in order.
use Rattle.std.proofs.Common.{◌≤◌, ap, sym, ◌∙◌, ℕ, Bool, List, find, arith}
use Rattle.std.specs.Str.{bytes_eq}
use Rattle.qo_model.specs.RowNames.{property_name}
use Rattle.qo_model.specs.declared.properties.Property.{Property}
use Rattle.qo_properties.proofs.PlanningLemmas.{count-few, count-other, count-own, found-here, found-later, found-none, stands-here}
use Rattle.qo_properties.proofs.adding.planning.placed_row.Goals.{else-is_stored, then-is_stored}
use Rattle.qo_properties.proofs.adding.planning.placed_row.Goals as goal

abbrev named : List ℕ → Property → Bool
named name p = bytes_eq (property_name p.name) name

pub returns-then-eq-clause-row : goal.returns-then-eq-clause-row
returns-then-eq-clause-row c =
    sym (
    ap (find (named c.args.name.now)) (sym c.props-row-items.ensures)
    ∙ found-here (named c.args.name.now) c.props-row-items.result.now c.loop-row.row-index _ c.loop-row-test.true c.loop-row.invariant.found
    (ap (λ (t : List ℕ). bytes_eq t c.args.name.now) (sym c.as_str.ensures) ∙ sym c.eq.ensures ∙ c.if-eq.true)
    )

pub returns-then-eq-clause-place : goal.returns-then-eq-clause-place
returns-then-eq-clause-place c =
    stands-here c.args.kind c.props-row-items.result.now c.loop-row.row-index _ c.loop-row-test.true c.loop-row.place c.loop-row.invariant.place
    c.props-row-items.ensures

pub overflow_add-place : goal.overflow_add-place
overflow_add-place c =
    let few : c.loop-row.place ≤ 9 = count-few c.args.kind c.props-row-items.result.now c.loop-row.row-index c.loop-row.place c.loop-row.invariant.place
    c.props-row-items.ensures in
    omega arith

pub loop-row-preserved : goal.loop-row-preserved
loop-row-preserved c =
    record {
      found =
          found-later (named c.args.name.now) c.props-row-items.result.now c.loop-row.row-index _ c.loop-row-test.true c.loop-row.invariant.found
          (ap (λ (t : List ℕ). bytes_eq t c.args.name.now) (sym c.as_str.ensures) ∙ sym c.eq.ensures ∙ c.if-eq.false);
      place = elim c.if-is_stored.branch [
        | then-is_stored w ↦
            w.place-is
            ∙ count-own c.args.kind c.props-row-items.result.now c.loop-row.row-index _ c.loop-row-test.true (sym w.if-is_stored.true ∙ c.is_stored.ensures
            c.args.kind) c.loop-row.place c.loop-row.invariant.place
        | else-is_stored w ↦
            w.place-is ∙ count-other c.args.kind c.props-row-items.result.now c.loop-row.row-index _ c.loop-row-test.true (sym w.if-is_stored.false
            ∙ c.is_stored.ensures
            c.args.kind) c.loop-row.place c.loop-row.invariant.place
      ];
    }

pub returns-clause-row : goal.returns-clause-row
returns-clause-row c =
    sym (
    ap (find (named c.args.name.now)) (sym c.props-row-items.ensures)
    ∙ found-none (named c.args.name.now) c.props-row-items.result.now c.loop-row.row-index c.loop-row-test.false c.loop-row.invariant.found
    )
