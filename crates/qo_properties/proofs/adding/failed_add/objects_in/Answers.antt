-- A further object is counted at each of its properties.
use Rattle.std.proofs.Common.{◌≡◌, ◌+◌, ◌≤◌, ◌∙◌, ap, sym, drop, filter_map, length, List, arith}
use Rattle.qo_model.specs.Plug.{further_in, further_of, objects_in}
use Rattle.qo_model.specs.declared.properties.Property.{Property}
use Rattle.qo_properties.proofs.FurtherCounts.{counted, few-further}
use Rattle.qo_paths.proofs.EndLemmas.{given-past}
use Rattle.qo_properties.proofs.adding.failed_add.objects_in.Goals.{then-is_further, else-is_further}
use Rattle.qo_properties.proofs.adding.failed_add.objects_in.Goals as goal

pub loop-row-init : goal.loop-row-init
loop-row-init c =
    let same : length (filter_map further_in c.props-rows.result.now) ≡ length (further_of c.args.kind) =
    ap (λ (ps : List Property). length (filter_map further_in ps)) c.props-rows.ensures in
    omega (arith, same)

pub overflow_add-count : goal.overflow_add-count
overflow_add-count c =
    let few : objects_in c.args.kind ≤ 10 = few-further c.args.kind in
    let so : c.loop-row.count + length (filter_map further_in (drop c.loop-row.row-index c.props-rows.result.now)) ≡ objects_in c.args.kind =
    c.loop-row.invariant in
    omega (arith, few, so)

pub loop-row-preserved : goal.loop-row-preserved
loop-row-preserved c = elim c.if-is_further.branch [
  | then-is_further w ↦
      rw w.count-is (counted c.props-rows.result.now c.loop-row.row-index _ c.loop-row.count _ _ c.loop-row-test.true (sym w.if-is_further.true
      ∙ c.is_further.ensures) c.loop-row.invariant)
  | else-is_further w ↦
      rw w.count-is (counted c.props-rows.result.now c.loop-row.row-index _ c.loop-row.count _ _ c.loop-row-test.true (sym w.if-is_further.false
      ∙ c.is_further.ensures) c.loop-row.invariant)
]

pub returns-clause-count : goal.returns-clause-count
returns-clause-count c =
    let none : length (filter_map further_in (drop c.loop-row.row-index c.props-rows.result.now)) ≡ 0 =
    ap length (given-past further_in c.props-rows.result.now c.loop-row.row-index c.loop-row-test.false) in
    omega (arith, none, c.loop-row.invariant)

pub returns-clause-few : goal.returns-clause-few
returns-clause-few c =
    let none : length (filter_map further_in (drop c.loop-row.row-index c.props-rows.result.now)) ≡ 0 =
    ap length (given-past further_in c.props-rows.result.now c.loop-row.row-index c.loop-row-test.false) in
    let few : objects_in c.args.kind ≤ 10 = few-further c.args.kind in
    omega (arith, few, none, c.loop-row.invariant)
