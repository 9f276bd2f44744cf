-- A property more is made at each turn, with the next value of the plan.
use Rattle.std.proofs.Common.{refl, ◌<◌, ◌≤◌, length, arith}
use Rattle.qo_model.specs.Types.{slots_of}
use Rattle.qo_heap.proofs.HeapLemmas.{on-err}
use Rattle.qo_properties.proofs.NewSlotLemmas.{few-slots, row-at}
use Rattle.qo_properties.proofs.PlanningLemmas.{count-few}
use Rattle.qo_plug.proofs.DraftLemmas.{all-left, all-own, all-shown, fell-at, reached-more, reached-none}
use Rattle.qo_plug.proofs.GrowthLemmas.{grows-then}
use Rattle.qo_plug.proofs.drafting.make_properties.Goals as goal

pub loop-row-init : goal.loop-row-init
loop-row-init g c = reached-none c.args.device c.args.kind c.args.plan.now c.args.heap.now

pub next_value-fill-requires : goal.next_value-fill-requires
next_value-fill-requires g c =
    let few : c.loop-row.at ≤ 9 = count-few c.args.kind (slots_of c.args.kind) c.loop-row.place c.loop-row.at c.loop-row.invariant.place refl in
    omega (arith, few)

pub make_property-requires : goal.make_property-requires
make_property-requires g c = record { live = c.loop-row.invariant.grows.names c.args.device c.requires.live }

pub overflow_add-place : goal.overflow_add-place
overflow_add-place g c =
    let below : c.loop-row.place < length (slots_of c.args.kind) = (row-at c.args.kind c.loop-row.place c.in-Some.row c.in-Some.ensures).within in
    let few : length (slots_of c.args.kind) ≤ 9 = few-slots c.args.kind in
    omega (arith, below, few)

pub loop-row-smaller : goal.loop-row-smaller
loop-row-smaller g c =
    let below : c.loop-row.place < length (slots_of c.args.kind) = (row-at c.args.kind c.loop-row.place c.in-Some.row c.in-Some.ensures).within in
    omega (arith, below)

pub loop-row-preserved : goal.loop-row-preserved
loop-row-preserved g c =
    reached-more c.args.device c.args.kind c.args.plan.now c.requires.fits c.loop-row.place c.loop-row.at c.next_value-fill.new.at c.in-Some.row
    c.args.heap.now c.loop-row.heap c.make_property.new.heap c.loop-row.plan c.next_value-fill.new.plan c.next_value-fill.result c.in-Some.ensures
    c.loop-row.invariant
    (record { own = c.next_value-fill.ensures.own; other = c.next_value-fill.ensures.other })
    c.in_ok-make_property.ensures.ok c.in_ok-make_property.ensures.own c.in_ok-make_property.ensures.grows

pub returns-in_err-make_property-clause-err : goal.returns-in_err-make_property-clause-err
returns-in_err-make_property-clause-err g c =
    on-err c.from_residual.result (λ b props has.
    fell-at c.args.device c.args.kind c.args.plan.now c.requires.fits c.loop-row.place c.loop-row.at c.next_value-fill.new.at c.in-Some.row
    c.args.heap.now c.loop-row.heap c.make_property.new.heap c.loop-row.plan c.next_value-fill.new.plan c.next_value-fill.result c.in-Some.ensures
    c.loop-row.invariant
    (record { own = c.next_value-fill.ensures.own; other = c.next_value-fill.ensures.other })
    b props has c.in_err-make_property.ensures.err)

pub returns-in_err-make_property-clause-grows : goal.returns-in_err-make_property-clause-grows
returns-in_err-make_property-clause-grows g c =
    grows-then c.args.heap.now c.loop-row.heap c.make_property.new.heap c.loop-row.invariant.grows c.in_err-make_property.ensures.grows

pub returns-clause-ok : goal.returns-clause-ok
returns-clause-ok g c =
    all-shown c.args.device c.args.kind c.args.plan.now c.requires.fits c.loop-row.place c.loop-row.at c.args.heap.now c.loop-row.heap c.loop-row.plan
    c.in_default.ensures c.loop-row.invariant

pub returns-clause-own : goal.returns-clause-own
returns-clause-own g c =
    all-own c.args.device c.args.kind c.args.plan.now c.requires.fits c.loop-row.place c.loop-row.at c.args.heap.now c.loop-row.heap c.loop-row.plan
    c.in_default.ensures c.loop-row.invariant

pub returns-clause-left : goal.returns-clause-left
returns-clause-left g c =
    all-left c.args.device c.args.kind c.args.plan.now c.requires.fits c.loop-row.place c.loop-row.at c.args.heap.now c.loop-row.heap c.loop-row.plan
    c.in_default.ensures c.loop-row.invariant
