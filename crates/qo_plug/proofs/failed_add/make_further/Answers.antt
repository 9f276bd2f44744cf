-- A property more is passed at each turn, and a further object that it is is made.
use Rattle.std.proofs.Common.{sym, subst, ◌+◌, ◌<◌, ◌≤◌, length, arith}
use Rattle.qo_model.specs.Types.{slots_of}
use Rattle.qo_heap.proofs.HeapLemmas.{on-err}
use Rattle.qo_properties.proofs.NewSlotLemmas.{few-slots, row-at}
use Rattle.qo_plug.proofs.FurtherLemmas.{Passed, fell-kid, passed-all, passed-kid, passed-none, passed-other}
use Rattle.qo_plug.proofs.GrowthLemmas.{grows-then}
use Rattle.qo_plug.proofs.failed_add.make_further.Goals.{in-Child+in_ok-make_kid, in_default-role}
use Rattle.qo_plug.proofs.failed_add.make_further.Goals as goal

pub loop-row-init : goal.loop-row-init
loop-row-init g c = passed-none c.args.device c.args.kind c.args.heap.now

pub make_kid-requires : goal.make_kid-requires
make_kid-requires g c = record { live = c.loop-row.invariant.grows.names c.args.device c.requires }

pub overflow_add-place : goal.overflow_add-place
overflow_add-place g c =
    let below : c.loop-row.place < length (slots_of c.args.kind) = (row-at c.args.kind c.loop-row.place c.in-Some.row c.in-Some.ensures).within in
    let few : length (slots_of c.args.kind) ≤ 9 = few-slots c.args.kind in
    omega (arith, below, few)

pub loop-row-smaller : goal.loop-row-smaller
loop-row-smaller g c =
    let below : c.loop-row.place < length (slots_of c.args.kind) = (row-at c.args.kind c.loop-row.place c.in-Some.row c.in-Some.ensures).within in
    omega (arith, below)

pub loop-row-preserved : goal.loop-row-preserved
loop-row-preserved g c = elim c.match-row.branch [
  | in-Child+in_ok-make_kid w ↦
      passed-kid c.args.device c.args.kind c.loop-row.place c.in-Some.row c.args.heap.now c.loop-row.heap c.in-Some.ensures c.loop-row.invariant
      w.in-Child.further c.match-row.heap w.in-Child.is (rw w.heap-is w.in_ok-make_kid.ensures.ok) (rw w.heap-is w.in_ok-make_kid.ensures.grows)
  | in_default-role w ↦
      subst (λ x. Passed c.args.device c.args.kind (c.loop-row.place + 1) c.args.heap.now x) (sym w.heap-is)
      (passed-other c.args.device c.args.kind c.loop-row.place c.in-Some.row c.args.heap.now c.loop-row.heap c.in-Some.ensures c.loop-row.invariant
      w.in_default-role.not-Child)
]

pub returns-clause-ok : goal.returns-clause-ok
returns-clause-ok g c =
    passed-all c.args.device c.args.kind c.loop-row.place c.args.heap.now c.loop-row.heap c.in_default.ensures c.loop-row.invariant

pub returns-in_err-make_kid-clause-err : goal.returns-in_err-make_kid-clause-err
returns-in_err-make_kid-clause-err g c =
    on-err c.from_residual.result (fell-kid c.args.device c.args.kind c.loop-row.place c.in-Some.row c.args.heap.now c.loop-row.heap c.in-Some.ensures
    c.loop-row.invariant c.in-Child.further c.make_kid.new.heap c.in-Child.is c.in_err-make_kid.ensures.err)

pub returns-in_err-make_kid-clause-grows : goal.returns-in_err-make_kid-clause-grows
returns-in_err-make_kid-clause-grows g c =
    grows-then c.args.heap.now c.loop-row.heap c.make_kid.new.heap c.loop-row.invariant.grows c.in_err-make_kid.ensures.grows
